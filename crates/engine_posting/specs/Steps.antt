-- What the calls' private steps ensure; no promise to a caller cites these.
use Rattle.std.specs.Prelude.{◌≡◌, Bool, not, ◌&&◌, List, ℕ, ◌+◌, eqb, Option, Some, None, Result, Ok}
use Rattle.refusal.specs.declared.Refusal.{Refusal}
use Rattle.refusal.specs.Tests.{accepted, judged}
use Rattle.line.specs.declared.Event.{Event}
use Rattle.line.specs.declared.Matter.{Matter}
use Rattle.line.specs.Event.{posted}
use Rattle.line.specs.Matter.{matter_of}
use Rattle.line.specs.Station.{Plan}
use Rattle.rules.specs.Held.{Held, event, Queue, Found, held_post}
use Rattle.rules.specs.Engine.{Setting, Engine, Post, Retract, Posted}
use Rattle.rules.specs.Checks.{checks}
use Rattle.rules.specs.Calls.{post_of}
use Rattle.words.specs.Le.{load_at}
use Rattle.engine_rows.specs.Layout.{slot_row, free_status}
use Rattle.entry.specs.Entry.{event_at}
use Rattle.engine_index.specs.Represents.{Cell, cell}
use Rattle.engine_events.specs.Represents.{Has, Holds}
use Rattle.engine_promises.specs.Represents.{Represents}
use Rattle.engine_promises.specs.Promises.{Becomes}
use Rattle.engine_promises.specs.Steps.{JudgesAndFinds, Numbered}
use Rattle.engine_posting.specs.declared.NewPost.{NewPost}
use Rattle.engine_posting.specs.declared.HeldPost.{HeldPost}

-- does slot i hold a post with that number?
unfoldable pub is_post_at : List ℕ → ℕ → ℕ → ℕ → Bool
is_post_at xs n i number =
    not (eqb (load_at 2 (slot_row n i + 60) xs) free_status)
    && (eqb (event_at (slot_row n i) xs).source posted && eqb (event_at (slot_row n i) xs).number number)

-- r is the node of a held post with that number
pub record FindsPost (n c number : ℕ) (xs : List ℕ) (r : Option ℕ) : Type 0 where
  pub none : (p : Plan) (setting : Setting) (now : ℕ) (q : Queue) (cells : List Cell) → Holds p setting n c now xs q cells → r ≡ None
      → held_post number q.held ≡ Found.none
  pub some : (p : Plan) (setting : Setting) (now : ℕ) (q : Queue) (cells : List Cell) → Holds p setting n c now xs q cells → (x : ℕ) → r ≡ Some x
      → (h : Held) × Has (cell x h) cells × ((event h).source ≡ posted) × ((event h).number ≡ number)

-- ---- judging

-- x is the event of the post, at an engine of n stations and c slots
pub record PostIs (p : Plan) (e : Engine) (n c s t kind value : ℕ) (x : Event) : Type 0 where
  pub stations : p.count ≡ n
  pub capacity : e.setting.capacity ≡ c
  pub matter : Matter
  pub means : matter_of p.count kind value ≡ Ok matter
  pub is : x ≡ post_of e.next s t matter

abbrev pub JudgesPost : ℕ → ℕ → ℕ → ℕ → List ℕ → Result NewPost Refusal → Type 0
JudgesPost s t kind value xs r =
    JudgesAndFinds (Post s t kind value) xs r (λ f. (p : Plan) (e : Engine) → Represents p e xs → PostIs p e f.n f.c s t kind value f.event)

-- the event of an accepted post is added
abbrev pub AddsPost : ℕ → ℕ → Event → List ℕ → ℕ → List ℕ → Type 0
AddsPost n c x xs undone ys =
    (p : Plan) (e : Engine) (s t kind value : ℕ) → Represents p e xs → judged (checks p e (Post s t kind value)) ≡ accepted
    → PostIs p e n c s t kind value x → Becomes p e (Post s t kind value) (Posted e.next undone) ys

abbrev pub JudgesRetract : ℕ → List ℕ → Result HeldPost Refusal → Type 0
JudgesRetract number xs r = JudgesAndFinds (Retract number) xs r (λ f. Numbered f.n f.c xs × FindsPost f.n f.c number xs (Some f.node))
