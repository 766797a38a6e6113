-- What a slice of station records says of each of them by its type: its numbers fit, and its name has 16 bytes.
--     stations_say      of a `&[Station]` that is owned
-- Assumes nothing.
use Prim.Native.Nat.{ℕ}
use mathlib.Core.List.{List}
use mathlib.Core.Path.{◌≡◌}
use lib.ListN.{length}
use mir.Syntax.{Lifetime, w16, w32, w64}
use mir.Val.{Val}
use base.Fml.{Lft}
use denote.Array.{Array}
use denote.Builtin.{u8}
use denote.Ref.{Bor}
use denote.Slice.{ShrSlice}
use denote.Struct.Declared.{shape}
use denote.Known.{Says, Known, All, Says-some, Says-map, Says-first, Says-shadow, uint_known, struct_known, declared_known, shr_slice_known}
use Rattle.line.specs.contracts.Config as C
use Rattle.plan_format.specs.declared.Station.{Station}
use Rattle.plan_format.specs.contracts.Station as T
use Rattle.plan_format.specs.Typed.{Sized, AreSized}
use Rattle.plan_format.specs.Writing.{no_station}

-- an array by its length alone
array_owned : (n : ℕ) (xs : List ℕ) (vs : List Val) → Says ((Array u8 n).own_val xs vs) (length xs ≡ n)
array_owned n xs vs = Says-some (List Val) _ (λ us. Says-first _ _ (Says-shadow _ (λ s. s.1)))

array_lent : (n : ℕ) (xs : List ℕ) (b o : ℕ) (κ : Lft) → Says ((Array u8 n).shr_at xs b o κ) (length xs ≡ n)
array_lent n xs b o κ = Says-first _ _ (Says-shadow _ (λ s. s))

abbrev name_known : Known (Array u8 16)
name_known = record { Fact = λ xs. length xs ≡ 16; owned = array_owned 16; shared = array_lent 16 }

abbrev config_known : Known (C.the_field).row
config_known =
    struct_known (shape C.the_type) (uint_known w16, (uint_known w32, (uint_known w32, (uint_known w32, (uint_known w32, (uint_known w32, (uint_known w32, tt)))))))

abbrev station_known : Known T.the_row
station_known = declared_known T.the_type (config_known, (name_known, (uint_known w64, tt)))

sized : (s : Station) → station_known.Fact s → Sized s
sized s f = record {
  parent = f.0.0;
  calm = f.0.1.0;
  spring = f.0.1.1.0;
  threshold = f.0.1.1.1.0;
  hop = f.0.1.1.1.1.0;
  noise = f.0.1.1.1.1.1.0;
  seed = f.0.1.1.1.1.1.1.0;
  name = f.1.0;
}

all_sized : (ss : List Station) → All station_known.Fact ss → AreSized ss
all_sized ss all k l = sized _ (all k no_station l)

pub stations_say : (ℓ : Lifetime) (κ : Lft) (x : Bor (List Station)) (vs : List Val) → Says ((ShrSlice ℓ κ T.the_row).own_val x vs) (AreSized x.now)
stations_say ℓ κ x vs = Says-map _ (all_sized x.now) ((shr_slice_known T.the_row station_known ℓ κ).owned x vs)
