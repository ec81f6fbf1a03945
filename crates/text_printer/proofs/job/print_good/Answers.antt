use Rattle.std.proofs.Common.{rules}
use Rattle.text_printer.proofs.PrintLaws.{good_laws}
use Rattle.text_printer.proofs.job.print_good.Goals as goal

pub overflow_add-number_len : goal.overflow_add-number_len
overflow_add-number_len c = search (good_laws, rules)

pub find_words-requires : goal.find_words-requires
find_words-requires c = search (good_laws, rules)

pub write_text-requires : goal.write_text-requires
write_text-requires c = search (good_laws, rules)
