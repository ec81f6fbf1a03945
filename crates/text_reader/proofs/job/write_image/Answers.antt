use Rattle.text_reader.proofs.JobLaws.{write_laws}
use Rattle.std.proofs.Common.{rules}
use Rattle.text_reader.proofs.job.write_image.Goals as goal

pub room_in-room-requires : goal.room_in-room-requires
room_in-room-requires c = search (write_laws, rules)

pub image_len-len-requires : goal.image_len-len-requires
image_len-len-requires c = search (write_laws, rules)

pub returns-then-room-len : goal.returns-then-room-len
returns-then-room-len c = search (write_laws, rules)

pub put_image-requires : goal.put_image-requires
put_image-requires c = search (write_laws, rules)

pub overflow_cast-result : goal.overflow_cast-result
overflow_cast-result c = search (write_laws, rules)

pub returns : goal.returns
returns c = search (write_laws, rules)
