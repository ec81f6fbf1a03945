use Rattle.std.proofs.Common.{◌∙◌, ap}
use Rattle.model.specs.Jobs.{Answer}
use Rattle.meirhuppa.proofs.Wholes.{refused-answer, stopped-answer, named-answer, written-answer, length-fits}
use Rattle.meirhuppa.proofs.answers.given_back.Goals as goal

pub overflow_cast-n : goal.overflow_cast-n
overflow_cast-n c = length-fits c.requires c.in-Written.is

pub returns-in-Refused : goal.returns-in-Refused
returns-in-Refused c = c.refused.ensures ∙ refused-answer c.in-Refused.is c.code.ensures

pub returns-in-Stopped : goal.returns-in-Stopped
returns-in-Stopped c =
    ap (λ (x : Answer). record { code = x.code; units = x.units; name = x.name; len = x.len; first = c.in-Stopped.rivals.first; second = c.in-Stopped.rivals.second }) c.refused-a.ensures
    ∙ stopped-answer c.in-Stopped.is c.code-in-Stopped.ensures

pub returns-in-Named : goal.returns-in-Named
returns-in-Named c =
    ap (λ (x : Answer). record { code = x.code; units = x.units; name = c.in-Named.n.0; len = x.len; first = x.first; second = x.second }) c.written-a.ensures
    ∙ named-answer c.in-Named.is

pub returns-in-Written : goal.returns-in-Written
returns-in-Written c = c.written.ensures ∙ written-answer c.in-Written.is
