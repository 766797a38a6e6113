-- An entry whose kind and value mean nothing.
use mathlib.Core.Path.{◌≡◌, refl}
use Rattle.std.specs.Prelude.{Result, Ok, Err, is_err}
use Rattle.refusal.specs.declared.Refusal.{Refusal}
use Rattle.line.specs.declared.Matter.{Matter}
use Rattle.line.specs.Matter.{unsuited}

pub unsuited_is : (r : Result Matter Refusal) → is_err r ≡ unsuited r
unsuited_is (Ok m) = refl
unsuited_is (Err e) = refl
