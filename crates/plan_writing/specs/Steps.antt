-- The writer's pass over a list of stations: what one station does to the pen and to the output.
use Rattle.std.specs.Prelude.{ℕ, zero, suc, ◌+◌, ◌*◌, Bool, cond, ◌&&◌, List, ◌++◌, ltb, leb, eqb, length, get_or, Result, Ok, Err}
use Rattle.std.proofs.lemmas.List.Edits.{sets}
use Rattle.words.specs.Le.{bytes_of}
use Rattle.refusal.specs.declared.Refusal.{Refusal}
use Rattle.refusal.specs.declared.Refusal.TheVariants.{Shape, Field, Name, Output}
use Rattle.line.specs.Station.{number_out}
use Rattle.line.specs.declared.Config.{Config}
use Rattle.plan_format.specs.declared.Station.{Station}
use Rattle.plan_writing.specs.declared.Pen.{Pen}
use Rattle.plan_format.specs.Plan.{name_out}
use Rattle.plan_format.specs.Writing.{size_of, record_bytes, no_station, count_out}

-- ---- one station

-- the lowest bad station below k + 1, from the lowest below k
abbrev pub lower : ℕ → ℕ → Bool → ℕ
lower low k bad = cond (ltb low k) low (cond bad k (suc k))

-- the bytes of a name that are nameBytes: a longer one is refused
abbrev pub name_bytes : ℕ → ℕ
name_bytes len = cond (ltb 16 len) 16 len

-- the pen after one station more
unfoldable pub moved : Station → Pen → Pen
moved s p = record {
  n = p.n;
  k = p.k + 1;
  at = p.at + 26 + name_bytes s.len;
  field = lower p.field p.k (number_out p.k s.config);
  name = lower p.name p.k (name_out s);
  writing = p.writing;
}

-- a pen that a pass can have
abbrev pub ready : Pen → Bool
ready p = ltb p.k p.n && (leb p.n 256 && ltb p.at 65536)

-- a pen that writes, and room for the station's pair and record
abbrev pub roomy : Station → Pen → ℕ → Bool
roomy s p room = p.writing && (leb s.len 16 && (leb (10 + 8 * p.k) room && leb (p.at + size_of s) room))

-- the first four numbers of a record, and the other three
abbrev pub head_bytes : Config → List ℕ
head_bytes c = bytes_of 2 c.parent ++ (bytes_of 4 c.calm ++ (bytes_of 4 c.spring ++ bytes_of 4 c.threshold))

abbrev pub tail_bytes : Config → List ℕ
tail_bytes c = bytes_of 4 c.hop ++ (bytes_of 4 c.noise ++ bytes_of 4 c.seed)

-- the count, before the first station
abbrev pub headed : Pen → List ℕ → List ℕ
headed p out = cond (eqb p.k 0) (sets out 0 (bytes_of 2 p.n)) out

unfoldable pub placed : Station → Pen → List ℕ → List ℕ
placed s p out = sets (sets (headed p out) (2 + 8 * p.k) (bytes_of 4 p.at ++ bytes_of 4 (size_of s))) p.at (record_bytes s)

-- ---- the pass

-- the pen, and the output so far
pub record Draft : Type 0 where
  pub pen : Pen
  pub out : List ℕ

unfoldable pub stepped : Station → Draft → Draft
stepped s d =
    cond (ready d.pen)
    (record { pen = moved s d.pen; out = cond (roomy s d.pen (length d.out)) (placed s d.pen d.out) d.out })
    d

-- after the first k stations
unfoldable pub drafted : List Station → ℕ → Draft → Draft
drafted ss zero d = d
drafted ss (suc k) d = stepped (get_or ss k no_station) (drafted ss k d)

-- ---- between the two passes

abbrev pub pen_of : ℕ → Bool → Pen
pen_of n writing = record { n = n; k = 0; at = 2 + 8 * n; field = 0; name = 0; writing = writing }

-- how many stations the first pass looks at: none where their number is refused
abbrev pub wanted : ℕ → ℕ → ℕ
wanted n len = cond (count_out n len) 0 n

-- what the first pass's pen says of so much room
unfoldable pub answered : Pen → ℕ → Result ℕ Refusal
answered p room =
    cond (ltb p.n 1) (Err Shape)
    (cond (ltb p.field p.n) (Err (Field p.field))
    (cond (ltb p.name p.n) (Err (Name p.name))
    (cond (ltb room p.at) (Err Output)
    (Ok p.at))))
