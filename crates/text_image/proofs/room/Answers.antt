use Rattle.text_image.proofs.Texts.{room-long}
use Rattle.text_image.proofs.room.Goals as goal

pub returns : goal.returns
returns c = room-long
