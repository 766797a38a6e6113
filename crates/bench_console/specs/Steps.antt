-- What the console's steps ensure: xs is the engine's buffer at first and ys at last.
use Rattle.std.specs.Prelude.{◌≡◌, ◌⊎◌, List, ◌++◌, ℕ, ◌≤◌, length, take, Option, None, Some, Result, MatchResult}
use Rattle.bench_answers.specs.Promises.{Replied}
use Rattle.bench_console.specs.Input.{Consumed, Ended}

-- a line is answered
pub record Printed (line xs ys : List ℕ) : Type 0 where
  pub printed : List ℕ
  pub replied : Replied line xs ys printed

-- the line buffer has the line that has not ended; of one that is longer than the buffer, its front
pub record Unended (rest line : List ℕ) (len : ℕ) : Type 0 where
  pub front : take len line ≡ take (length line) rest
  pub count : len ≡ length (take (length line) rest)

-- after that input
pub record Console (xs input line : List ℕ) (len : ℕ) (ys : List ℕ) : Type 0 where
  pub rest : List ℕ
  pub printed : List ℕ
  pub fed : Consumed xs input rest ys printed
  pub unended : Unended rest line len

pub record More (xs input line : List ℕ) (len : ℕ) (ys : List ℕ) : Type 0 where
  pub read : List ℕ
  pub console : Console xs (input ++ read) line len ys

pub record Last (xs input ys : List ℕ) : Type 0 where
  pub printed : List ℕ
  pub ended : Ended xs input ys printed

-- what could not be printed ends the run, after some of those bytes: all lines of the input so far are answered, the last one, which has not ended, too
-- or not yet
pub record Stopped (xs input bytes ys : List ℕ) : Type 0 where
  pub count : ℕ
  pub printed : List ℕ
  pub rest : List ℕ
  pub answers : Ended xs (input ++ take count bytes) ys printed ⊎ Consumed xs (input ++ take count bytes) rest ys printed

-- those bytes are taken, or what could not be printed ends the run
abbrev pub Taken : {E : Type 0} → List ℕ → List ℕ → List ℕ → List ℕ → Result ℕ E → List ℕ → Type 0
Taken xs input bytes line r ys = MatchResult r (λ len. Console xs (input ++ bytes) line len ys) (λ _. Stopped xs input bytes ys)

-- a read gives more input, or says that it has ended
abbrev pub IsReadOn : List ℕ → List ℕ → List ℕ → Option ℕ → List ℕ → Type 0
IsReadOn xs input line (Some len) ys = More xs input line len ys
IsReadOn xs input line None ys = Last xs input ys

-- .. or what could not be printed ends the run, after some of the bytes that it gives
abbrev pub ReadOn : {E : Type 0} → List ℕ → List ℕ → List ℕ → Result (Option ℕ) E → List ℕ → Type 0
ReadOn xs input line r ys = MatchResult r (λ read. IsReadOn xs input line read ys)
    (λ _. (bytes : List ℕ) × Stopped xs input bytes ys)

-- the line that has not ended is no longer than the line buffer
abbrev pub Within : Option ℕ → List ℕ → Type 0
Within (Some len) line = len ≤ length line
Within None line = Unit

-- all lines of some input are answered; without the last one where no read said that the input has ended
pub record AnswersAll (xs ys : List ℕ) : Type 0 where
  pub input : List ℕ
  pub printed : List ℕ
  pub rest : List ℕ
  pub answers : Ended xs input ys printed ⊎ Consumed xs input rest ys printed
