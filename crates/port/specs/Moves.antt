-- Just what the calls of a port do, over the exact moves of the memory below. Throughout, `b` and `n` are that memory and the numbers before
-- a call, `c` and `m` those after it, and `r` is its outcome.
use Rattle.std.specs.Prelude.{◌≡◌, ℕ, ◌+◌, ◌-◌, ◌/◌, ◌%◌, List, [], ◌∷◌, length, replicate, slice_get, Some, None, Option, Result, Ok, Err}
use Rattle.line.specs.Size.{line_size}
use Rattle.line.specs.Values.{value_mask, value_bytes}
use Rattle.memory.specs.declared.memory.Memory.{Ghosts}
use Rattle.memory.specs.declared.refusal.Refusal as memory_refusal
use Rattle.memory.specs.declared.refusal.Refusal.TheVariants as memory_refuses
use Rattle.memory.specs.declared.replies.Answer.{Answer}
use Rattle.memory.specs.declared.state.State as state
use Rattle.port.specs.Numbers.{refusal_of, with_given, answered_number, held, Redeems}
use Rattle.port.specs.Requests.{Verdict, Spans, load_verdict, store_verdict}
use Rattle.port.specs.declared.answer.Asked.{Asked}
use Rattle.port.specs.declared.answer.Asked.TheVariants as asked
use Rattle.port.specs.declared.event.Event.{Event}
use Rattle.port.specs.declared.event.Event.TheVariants.{Load, Store, Step, Redeem, Come, Size, RationLeft, OutCount}
use Rattle.port.specs.declared.numbers.Numbers.{Numbers}
use Rattle.port.specs.declared.refusal.Refusal.{Refusal}
use Rattle.port.specs.declared.refusal.Refusal.TheVariants.{Unlawful, RationUsed, TooManyOut, Busy}

-- a request with a verdict, which goes below by the move `goes`, and of which the port keeps what `asks` says: it is refused as the verdict says,
-- then as the numbers say, then where the memory below is busy, and nothing changes; else the next number is given to it
abbrev pub Asks : {S : Type 0} → Verdict → (Asked → Type 0) → (Result ℕ memory_refusal.Refusal → S → Type 0) → S → Numbers → Result ℕ Refusal → S → Numbers → Type 0
Asks verdict asks goes b n (Ok number) c m =
    (verdict ≡ Ok tt) × (refusal_of n ≡ None) × (number ≡ n.given + 1)
    × ((ticket : ℕ) × (a : Asked) × goes (Ok ticket) c × asks a × (m ≡ with_given ticket a n))
Asks verdict asks goes b n (Err (Unlawful why)) c m = (verdict ≡ Err why) × (c ≡ b) × (m ≡ n)
Asks verdict asks goes b n (Err RationUsed) c m = (verdict ≡ Ok tt) × (refusal_of n ≡ Some RationUsed) × (c ≡ b) × (m ≡ n)
Asks verdict asks goes b n (Err TooManyOut) c m = (verdict ≡ Ok tt) × (refusal_of n ≡ Some TooManyOut) × (c ≡ b) × (m ≡ n)
Asks verdict asks goes b n (Err Busy) c m = (verdict ≡ Ok tt) × (refusal_of n ≡ None) × goes (Err memory_refuses.Busy) c × (m ≡ n)

-- what a load asks: its bytes
abbrev pub LoadAsks : ℕ → ℕ → Asked → Type 0
LoadAsks size address (asked.Load span) = Spans size address span
LoadAsks size address asked.Store = ⊥

-- what a store asks
abbrev pub StoreAsks : Asked → Type 0
StoreAsks a = a ≡ asked.Store

module _ {S : Type 0} (st : state.Ghosts S) (k : Ghosts S) where
  -- a load is one read of its line
  abbrev pub Loads : S → Numbers → ℕ → ℕ → Result ℕ Refusal → S → Numbers → Type 0
  Loads b n size address r c m =
      Asks (load_verdict (st.lines b) size address) (LoadAsks size address) (λ s t. k.reads b (address / line_size) s t) b n r c m

  -- a store is one write to its line, of its bytes alone
  abbrev pub Stores : S → Numbers → ℕ → ℕ → ℕ → Result ℕ Refusal → S → Numbers → Type 0
  Stores b n size address value r c m =
      Asks (store_verdict (st.lines b) size address value) StoreAsks
      (λ s t. k.writes b (address / line_size) (value_mask (address % line_size) size) (value_bytes (address % line_size) size value) s t) b n r c m

  -- a step is one of the memory below; an answer to a number that is out is held
  abbrev pub Steps : S → Numbers → Option ℕ → S → Numbers → Type 0
  Steps b n r c m =
      (got : Option Answer) × (bytes : List ℕ) × k.steps b (replicate line_size 0) got c bytes × (r ≡ answered_number got n) × (m ≡ held got bytes n)

  -- what each call does, by its event
  abbrev pub Moves : Event → S → Numbers → S → Numbers → Type 0
  Moves (Load size address r) b n c m = Loads b n size address r c m
  Moves (Store size address value r) b n c m = Stores b n size address value r c m
  Moves (Step r) b n c m = Steps b n r c m
  Moves (Redeem number r) b n c m = Redeems number n r m × (c ≡ b)
  Moves (Come r) b n c m = (r ≡ slice_get n.come.items 0) × (c ≡ b) × (m ≡ n)
  Moves (Size r) b n c m = (r ≡ st.lines b) × (c ≡ b) × (m ≡ n)
  Moves (RationLeft r) b n c m = (r ≡ n.ration - n.given) × (c ≡ b) × (m ≡ n)
  Moves (OutCount r) b n c m = (r ≡ length n.out.items) × (c ≡ b) × (m ≡ n)

  -- these events, the latest first, were made one after another
  abbrev pub Runs : S → Numbers → List Event → S → Numbers → Type 0
  Runs b n [] c m = (c ≡ b) × (m ≡ n)
  Runs b n (e ∷ log) c m = (d : S) × (v : Numbers) × Runs b n log d v × Moves e d v c m
