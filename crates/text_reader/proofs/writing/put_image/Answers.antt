use Rattle.text_reader.proofs.WriteLaws.{image_laws}
use Rattle.std.proofs.Common.{rules}
use Rattle.text_reader.proofs.writing.put_image.Goals as goal

pub put_head-root-requires : goal.put_head-root-requires
put_head-root-requires c = search (image_laws, rules)

pub put_root-requires : goal.put_root-requires
put_root-requires c = search (image_laws, rules)

pub returns : goal.returns
returns c = search (image_laws, rules)
