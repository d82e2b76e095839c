use Rattle.cases.specs.Row.{Row}
use Rattle.memory.specs.Meaning.{Facts}
use Rattle.port.specs.Numbers.{counted_ration}
use Rattle.port.specs.Promise.{flat, due_to, accepted, waited, out, come, failed_check, failed_redeem}
use Rattle.port.specs.declared.answer.Redeemed.{Redeemed}
use Rattle.port.specs.declared.answer.Redeemed.TheVariants.{Value, Done, Fault as Failed}
use Rattle.port.specs.declared.event.Event.{Event}
use Rattle.port.specs.declared.event.Event.TheVariants.{Load, Store, Step, Redeem}
use Rattle.port.specs.declared.refusal.Refusal.TheVariants.{Busy}
use Rattle.port.specs.declared.refusal.Unredeemed.TheVariants.{NotOut}
use Rattle.std.specs.Prelude.{ℕ, ◌+◌, ◌*◌, if◌then◌else◌, List, [], ◌∷◌, map, reverse, Some, None, Option, Ok, Err, ◌==◌}
use Rattle.std.specs.List.{range_with_len}

-- a memory of 2 lines, whose byte at address a is a, and whose line 1 is bad
abbrev opened : Facts
opened = record {
  lines = 2;
  contents = λ line. map (λ i. 16 * line + i) (range_with_len 0 16);
  bad = λ line. if line == 1 then Some (record { level = 0; line = 1; cause = 9 }) else None;
  due = λ ticket. None;
  owed = 0;
  pace = 5;
}

-- a load of bytes 4 to 7, a store of 513 to bytes 4 and 5, the same load again, and a store and a load of the bad line; the latest first
abbrev log : List Event
log =
    Load 1 16 (Ok 5)
    ∷ Store 1 16 200 (Ok 4)
    ∷ Load 4 4 (Ok 3)
    ∷ Store 2 4 513 (Ok 2)
    ∷ Load 4 4 (Ok 1)
    ∷ []

-- two refused requests; three steps, of which the second brings the answer to number 3 and the third that to number 2; number 3 is redeemed,
-- and refused when it is redeemed again
abbrev later : List Event
later =
    Redeem 3 (Err NotOut)
    ∷ Redeem 3 (Ok (Value 117834241))
    ∷ Step (Some 2)
    ∷ Step (Some 3)
    ∷ Step None
    ∷ Store 2 4 7 (Err Busy)
    ∷ Load 1 0 (Err Busy)
    ∷ log

-- what is redeemed: 0 and the value of a load, 1 for a store that is done, 2 and the three numbers of a fault; nothing for no number
abbrev numbers_in : Option Redeemed → List ℕ
numbers_in None = []
numbers_in (Some (Value value)) = 0 ∷ value ∷ []
numbers_in (Some Done) = 1 ∷ []
numbers_in (Some (Failed fault)) = 2 ∷ fault.level ∷ fault.line ∷ fault.cause ∷ []

-- the first check that fails, or 0
abbrev check_number : Option ℕ → ℕ
check_number None = 0
check_number (Some check) = check

-- sixteen loads that were accepted, the latest first
abbrev sixteen : List Event
sixteen = map (λ i. Load 1 0 (Ok (i + 1))) (reverse (range_with_len 0 16))

-- worked examples of what a port promises
abbrev pub port_rows : List Row
port_rows =
    -- bytes 4, 5, 6, 7 are 4 + 5 × 256 + 6 × 65,536 + 7 × 16,777,216, before the store that came later
    record { computed = numbers_in (due_to opened later 1); wanted = 0 ∷ 117835012 ∷ [] }
    -- a store on a good line is done
    ∷ record { computed = numbers_in (due_to opened later 2); wanted = 1 ∷ [] }
    -- and the load behind it shows bytes 1, 2, 6, 7
    ∷ record { computed = numbers_in (due_to opened later 3); wanted = 0 ∷ 117834241 ∷ [] }
    -- a store and a load of the bad line have its fault
    ∷ record { computed = numbers_in (due_to opened later 4); wanted = 2 ∷ 0 ∷ 1 ∷ 9 ∷ [] }
    ∷ record { computed = numbers_in (due_to opened later 5); wanted = 2 ∷ 0 ∷ 1 ∷ 9 ∷ [] }
    -- no number 6 was given
    ∷ record { computed = numbers_in (due_to opened later 6); wanted = [] }
    -- flat memory: the bytes of the store, those beside them, and one of the bad line, which no store alters
    ∷ record { computed = map (flat opened later) (3 ∷ 4 ∷ 5 ∷ 6 ∷ 16 ∷ []); wanted = 3 ∷ 1 ∷ 2 ∷ 6 ∷ 16 ∷ [] }
    -- five were accepted, and three steps made since
    ∷ record { computed = accepted later ∷ waited later ∷ []; wanted = 5 ∷ 3 ∷ [] }
    -- all but number 3 are out, and the answer to number 2 has come
    ∷ record { computed = out later; wanted = 1 ∷ 2 ∷ 4 ∷ 5 ∷ [] }
    ∷ record { computed = come later; wanted = 2 ∷ [] }
    -- number 2 can be redeemed, number 1 has not come, and number 3 is not out
    ∷ record { computed = map (λ number. check_number (failed_redeem later number)) (2 ∷ 1 ∷ 3 ∷ []); wanted = 0 ∷ 25 ∷ 24 ∷ [] }
    -- a ration of 6 leaves one request, and one of 5 none
    ∷ record { computed = check_number (failed_check 6 later (Ok tt)) ∷ check_number (failed_check 5 later (Ok tt)) ∷ []; wanted = 0 ∷ 22 ∷ [] }
    -- a ration of 0 is 1, and one above 1,000,000 is that
    ∷ record { computed = map counted_ration (0 ∷ 1 ∷ 1000000 ∷ 1000001 ∷ []); wanted = 1 ∷ 1 ∷ 1000000 ∷ 1000000 ∷ [] }
    -- with sixteen out no more is accepted; where the ration is used too, that is told
    ∷ record { computed = check_number (failed_check 17 sixteen (Ok tt)) ∷ check_number (failed_check 16 sixteen (Ok tt)) ∷ []; wanted = 21 ∷ 22 ∷ [] }
    ∷ []
