-- Two lists of calls held against each other: "Installers compare two printouts of one plan" (document 02, change 3).
use Rattle.std.specs.Prelude.{◌*◌, ◌≡◌, List, map, length, take, replicate}
use Rattle.rules.specs.Engine.{Call, Post, Retract, RunStation, RunLowest, Commit, Record, Answer, Refused, Posted, Retracted, Ran, RanLowest, Committed, Recorded}
use Rattle.rules.specs.Demand.{Made, logs}

abbrev pub calls_of : List Made → List Call
calls_of ms = map (λ m. m.asked) ms

abbrev pub answers_of : List Made → List Answer
answers_of ms = map (λ m. m.said) ms

-- what the output of a commit held before it goes, its length stays (number 18)
unfoldable pub blanked : Call → Call
blanked (Post s t kind value) = Post s t kind value
blanked (Retract n) = Retract n
blanked (RunStation s) = RunStation s
blanked RunLowest = RunLowest
blanked (Commit c output) = Commit c (replicate (length output) 0)
blanked (Record s) = Record s

-- of a commit's output its log stays; the bytes behind the log are those that it held before
unfoldable pub trimmed : Answer → Answer
trimmed (Refused n) = Refused n
trimmed (Posted n u) = Posted n u
trimmed (Retracted u) = Retracted u
trimmed (Ran s u) = Ran s u
trimmed (RanLowest s u w) = RanLowest s u w
trimmed (Committed n output) = Committed n (take (24 * n) output)
trimmed (Recorded st) = Recorded st

-- of a run lowest the count of words read goes (document 02, change 5)
unfoldable pub uncounted : Answer → Answer
uncounted (Refused n) = Refused n
uncounted (Posted n u) = Posted n u
uncounted (Retracted u) = Retracted u
uncounted (Ran s u) = Ran s u
uncounted (RanLowest s u w) = Ran s u
uncounted (Committed n output) = Committed n output
uncounted (Recorded st) = Recorded st

-- what is claimed of two lists of calls after openings of one plan with one setting
pub record Alike (ms ns : List Made) : Type 0 where
  -- the same calls get the same answers
  pub same : calls_of ms ≡ calls_of ns → ms ≡ ns
  -- also where the outputs of their commits held other bytes: the same answers, and the same joined logs
  pub answers : map blanked (calls_of ms) ≡ map blanked (calls_of ns) → map trimmed (answers_of ms) ≡ map trimmed (answers_of ns)
  pub logs_are : map blanked (calls_of ms) ≡ map blanked (calls_of ns) → logs ms ≡ logs ns

-- after openings with other arities or leaf widths: the same of all but the counts
pub record AlikeButCounts (ms ns : List Made) : Type 0 where
  pub same : calls_of ms ≡ calls_of ns → map uncounted (answers_of ms) ≡ map uncounted (answers_of ns)
  pub answers : map blanked (calls_of ms) ≡ map blanked (calls_of ns)
      → map uncounted (map trimmed (answers_of ms)) ≡ map uncounted (map trimmed (answers_of ns))
  pub logs_are : map blanked (calls_of ms) ≡ map blanked (calls_of ns) → logs ms ≡ logs ns
