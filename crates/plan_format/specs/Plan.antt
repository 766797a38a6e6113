-- The bytes of a plan, and what is wrong with them (document 01, "Plan of a line" and numbers 1 to 5).
use Rattle.std.specs.Prelude.{ℕ, zero, suc, ◌+◌, ◌-◌, ◌*◌, Bool, not, ◌||◌, List, [], ◌∷◌, ◌++◌, ltb, eqb, length, take, drop, replicate}
use Rattle.std.specs.List.{list_any}
use Rattle.words.specs.Le.{load_at}
use Rattle.line.specs.declared.Config.{Config}
use Rattle.line.specs.Station.{number_out}
use Rattle.plan_format.specs.declared.Station.{Station}

-- ---- the format

-- "Bytes 0-1: N, the stations"
abbrev pub count : List ℕ → ℕ
count p = load_at 2 0 p

-- "Then N pairs, each a 4-byte offset and 4-byte length ..; pair k belongs to station k."
abbrev pub offset_of : List ℕ → ℕ → ℕ
offset_of p k = load_at 4 (2 + 8 * k) p

abbrev pub length_of : List ℕ → ℕ → ℕ
length_of p k = load_at 4 (6 + 8 * k) p

-- "The first offset is 2 + 8·N, each next is the previous offset plus length": where the record of station k has to begin
unfoldable pub begins : List ℕ → ℕ → ℕ
begins p zero = 2 + 8 * count p
begins p (suc k) = offset_of p k + length_of p k

-- "parent (2), then 4 bytes each for calm period, spring period, threshold in mm, hop delay, noise limit, seed"
unfoldable pub config_at : List ℕ → ℕ → Config
config_at p at = record {
  parent = load_at 2 at p;
  calm = load_at 4 (at + 2) p;
  spring = load_at 4 (at + 6) p;
  threshold = load_at 4 (at + 10) p;
  hop = load_at 4 (at + 14) p;
  noise = load_at 4 (at + 18) p;
  seed = load_at 4 (at + 22) p;
}

-- "Such a record keeps its name in 16 bytes with a length; the reader sets the bytes behind the length to 0"
abbrev pub padded : List ℕ → List ℕ
padded name = name ++ replicate (16 - length name) 0

-- ".. then a name of 0 to 16 bytes": the station of pair k
unfoldable pub station_at : List ℕ → ℕ → Station
station_at p k = record {
  config = config_at p (offset_of p k);
  name = padded (take (length_of p k - 26) (drop (offset_of p k + 26) p));
  len = length_of p k - 26;
}

-- j stations of a plan, from station k on
unfoldable pub stations_from : List ℕ → ℕ → ℕ → List Station
stations_from p k zero = []
stations_from p k (suc j) = station_at p k ∷ stations_from p (suc k) j

-- ---- what each number says

-- 1: "A plan is shorter than 2 bytes, N is 0 or over 256, or the pairs don't fit."
abbrev pub shape_wrong : List ℕ → Bool
shape_wrong p = ltb (length p) 2 || (ltb (count p) 1 || (ltb 256 (count p) || ltb (length p) (2 + 8 * count p)))

-- 2: "A pair has a wrong offset, a length outside 26 to 42, or an end past the file"
unfoldable pub pair_wrong : List ℕ → ℕ → Bool
pair_wrong p k =
    not (eqb (offset_of p k) (begins p k)) || (ltb (length_of p k) 26 || (ltb 42 (length_of p k) || ltb (length p) (offset_of p k + length_of p k)))

-- 3: "Bytes follow the last record."
abbrev pub trails : List ℕ → Bool
trails p = ltb (begins p (count p)) (length p)

-- 4: "A record has a number out of range"
unfoldable pub field_wrong : List ℕ → ℕ → Bool
field_wrong p k = number_out k (station_at p k).config

-- 5: "A name has a byte out of range, or over 16 bytes (writer)"; a byte is in range from 0x21 to 0x7E
abbrev pub byte_out : ℕ → Bool
byte_out b = ltb b 0x21 || ltb 0x7e b

unfoldable pub any_out : List ℕ → Bool
any_out bs = list_any byte_out bs

unfoldable pub name_out : Station → Bool
name_out s = ltb 16 s.len || any_out (take s.len s.name)

unfoldable pub name_wrong : List ℕ → ℕ → Bool
name_wrong p k = name_out (station_at p k)
