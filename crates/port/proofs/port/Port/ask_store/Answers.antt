use Rattle.std.proofs.Common.{◌≡◌, ℕ, ◌<◌, ◌/◌, ◌%◌, None, List, Ok, Err, refl, arith, rules}
use Rattle.line.specs.Values.{value_mask, value_bytes}
use Rattle.memory.specs.Gather.{facts}
use Rattle.memory.specs.Meaning.{Facts, WriteMeans}
use Rattle.memory.specs.declared.refusal.Refusal as memory_refusal
use Rattle.memory.specs.declared.refusal.Refusal.TheVariants.{NoLine, Busy}
use Rattle.port.proofs.Bytes.{store_inside}
use Rattle.port.specs.Numbers.{refusal_of}
use Rattle.port.specs.Requests.{store_verdict}
use Rattle.port.specs.declared.refusal.Refusal.TheVariants as why
use Rattle.port.proofs.port.Port.ask_store.Goals as goal

-- a write to a line that there is can be refused only as "busy"
only_busy : (f t : Facts) (line mask : ℕ) (new : List ℕ) (why : memory_refusal.Refusal) → line < f.lines → WriteMeans f line mask new (Err why) t → why ≡ Busy
only_busy f t line mask new NoLine inside h = let out = h.0 in absurd (omega arith)
only_busy f t line mask new Busy inside h = refl

pub returns-in_err-ticket : goal.returns-in_err-ticket
returns-in_err-ticket g c =
    let b = c.args.self.now.below in
    let d = c.write-written.new.self in
    let line : ℕ = c.args.address / 16 in
    let mask : ℕ = value_mask (c.args.address % 16) c.args.size in
    let new : List ℕ = value_bytes (c.args.address % 16) c.args.size c.args.value in
    let lawful : store_verdict (g.M.State.lines b) c.args.size c.args.address c.args.value ≡ Ok tt = search rules in
    let none : refusal_of c.args.self.now.numbers ≡ None = search rules in
    let line_is : c.in_ok-span.span.line ≡ line = search rules in
    let mask_is : c.mask.result ≡ mask = search rules in
    let bytes_is : c.bytes.result ≡ new = search rules in
    let refused : (e : memory_refusal.Refusal) × (c.write-written.result ≡ Err e) = search rules in
    let answer : c.from_residual-in_err-ticket.result ≡ Err why.Busy = search rules in
    let writes : g.M.Memory.writes b line mask new (Err refused.0) d = rw (line_is, mask_is, bytes_is, refused.1) at c.write-written.ensures in
    let means : WriteMeans (facts g.M.State b) line mask new (Err refused.0) (facts g.M.State d) = g.met.M.Memory.writing b d line mask new (Err refused.0) writes in
    let busy : refused.0 ≡ Busy = only_busy (facts g.M.State b) (facts g.M.State d) line mask new refused.0 (store_inside (g.M.State.lines b) c.args.size c.args.address c.args.value lawful).0 means in
    let was_busy : g.M.Memory.writes b line mask new (Err Busy) d = rw busy at writes in
    rw answer (lawful, none, was_busy, refl)
