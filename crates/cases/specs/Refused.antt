use Rattle.memory.specs.Meaning.{Facts}
use Rattle.port.specs.Promise.{Promised}
use Rattle.port.specs.declared.answer.Redeemed.TheVariants.{Value}
use Rattle.port.specs.declared.event.Event.{Event}
use Rattle.port.specs.declared.event.Event.TheVariants.{Load, Store, Step, Redeem, Come, RationLeft, OutCount}
use Rattle.port.specs.declared.refusal.Refusal.TheVariants.{Unlawful, RationUsed, TooManyOut, Busy}
use Rattle.port.specs.declared.request.Unlawful.TheVariants.{Alignment}
use Rattle.port.specs.declared.refusal.Unredeemed.TheVariants.{NotOut, NotCome}
use Rattle.std.specs.Prelude.{if◌then◌else◌, List, [], ◌∷◌, ◌==◌, replicate, Some, None, Ok, Err}

-- a memory of two lines of zeros, of which line 1 is bad, and of pace 1
abbrev pub zeros : Facts
zeros = record {
  lines = 2;
  contents = λ line. replicate 16 0;
  bad = λ line. if line == 1 then Some (record { level = 0; line = 1; cause = 9 }) else None;
  due = λ ticket. None;
  owed = 0;
  pace = 1;
}

-- a load that was accepted, a step that brought its answer, and the redeem that gave it, the latest first
abbrev pub loaded : List Event
loaded = Load 1 0 (Ok 1) ∷ []

abbrev pub brought : List Event
brought = Step (Some 1) ∷ loaded

abbrev pub redeemed : List Event
redeemed = Redeem 1 (Ok (Value 0)) ∷ brought

-- calls with outcomes that break the promise of a port with a ration of 3
abbrev pub Broken : List Event → Type 0
Broken log = Promised zeros 3 log → ⊥

-- the promise of a port refuses each of these
pub record PromiseRefuses : Type 0 where
  -- 23 with no number out, 22 within the ration, 21 with one number out
  pub busy : Broken (Load 1 0 (Err Busy) ∷ [])
  pub ration_left : Broken (Load 1 0 (Err RationUsed) ∷ loaded)
  pub room_left : Broken (Load 1 0 (Err TooManyOut) ∷ loaded)
  -- no value has 3 bytes: such a load is accepted, and it is refused as no multiple of 3
  pub unlawful : Broken (Load 3 0 (Ok 1) ∷ [])
  pub later_check : Broken (Load 3 1 (Err (Unlawful Alignment)) ∷ [])
  -- a number is skipped, and one is given again
  pub skipped : Broken (Load 1 0 (Ok 3) ∷ loaded)
  pub again : Broken (Load 1 0 (Ok 1) ∷ loaded)
  -- a fourth request is accepted, where one of three was a store
  pub fourth : Broken (Load 1 0 (Ok 4) ∷ Load 1 0 (Ok 3) ∷ Store 1 0 7 (Ok 2) ∷ loaded)
  -- a step brings the answer to a number that is not out, or one that has come
  pub not_out : Broken (Step (Some 2) ∷ redeemed)
  pub come_before : Broken (Step (Some 1) ∷ brought)
  -- an answer is not brought in time; that another request is accepted afterwards does not mend it
  pub late : Broken (Step None ∷ loaded)
  pub late_before : Broken (Load 1 0 (Ok 2) ∷ Step None ∷ loaded)
  -- the answer is given that has not come; 25 where it has come, 24 where the number is out, and a number redeemed twice
  pub not_come : Broken (Redeem 1 (Ok (Value 0)) ∷ loaded)
  pub has_come : Broken (Redeem 1 (Err NotCome) ∷ brought)
  pub is_out : Broken (Redeem 1 (Err NotOut) ∷ brought)
  pub twice : Broken (Redeem 1 (Ok (Value 0)) ∷ redeemed)
  -- another value than the line held, what was stored after the load, and a value of the bad line
  pub other_value : Broken (Redeem 1 (Ok (Value 1)) ∷ brought)
  pub later_value : Broken (Redeem 1 (Ok (Value 7)) ∷ Step (Some 1) ∷ Store 1 0 7 (Ok 2) ∷ loaded)
  pub no_fault : Broken (Redeem 1 (Ok (Value 0)) ∷ Step (Some 1) ∷ Load 1 16 (Ok 1) ∷ [])
  -- none is told though one has come, and one though another came first
  pub silent : Broken (Come None ∷ brought)
  pub youngest : Broken (Come (Some 2) ∷ Step (Some 2) ∷ Step (Some 1) ∷ Load 1 0 (Ok 2) ∷ loaded)
  -- too many requests are said to be left, and too few numbers to be out
  pub more_left : Broken (RationLeft 3 ∷ loaded)
  pub fewer_out : Broken (OutCount 0 ∷ loaded)
