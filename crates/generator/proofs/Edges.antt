-- The document's three edges of the generator, each computed.
use mathlib.Core.Path.{◌≡◌, refl}
use Rattle.generator.specs.Draw.{next_draw}

pub after_1 : next_draw 1 ≡ 16807
unfolding next_draw
after_1 = refl

pub after_16807 : next_draw 16807 ≡ 282475249
unfolding next_draw
after_16807 = refl

pub after_2147483646 : next_draw 2147483646 ≡ 2147466840
unfolding next_draw
after_2147483646 = refl
