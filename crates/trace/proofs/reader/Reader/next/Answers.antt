use Rattle.std.proofs.Common.{◌≡◌, ◌++◌, true, drop, Ok, Err, IfOk, sym, ap, ◌∙◌, subst, arith, rules}
use Rattle.trace.specs.Encode.{encode, in_limits}
use Rattle.trace.specs.Items.{item_of}
use Rattle.trace.specs.Filled.{seen}
use Rattle.trace.proofs.Next.{read_refused, read_gave, read_length, gave_back}
use Rattle.trace.proofs.reader.Reader.next.Goals as goal

pub returns-in_err-record : goal.returns-in_err-record
returns-in_err-record c =
    let trace = c.args.self.now.trace.now in
    let at = c.args.self.now.offset in
    let refusal = c.in_err-record.field-0.0.refusal in
    let r : c.read_record.result ≡ Err refusal = search rules in
    let e = read_refused trace at c.args.buffer.now refusal (sym c.if-is_over.ensures) (sym (ap seen r) ∙ c.read_record.ensures.value) in
    record {
      trace = search rules;
      value = search rules;
      after = search rules;
      filled = search rules;
      noted = search rules;
      read_back = search rules;
    }

pub overflow_sub-self : goal.overflow_sub-self
overflow_sub-self c =
    let trace = c.args.self.now.trace.now in
    let at = c.args.self.now.offset in
    let r : c.read_record.result ≡ Ok ((c.in_ok-record.record, c.in_ok-record.filled), c.in_ok-record.rest) = search rules in
    let w = subst (λ r. IfOk r (λ s. (drop at trace ≡ encode (item_of s.0.0 s.0.1) ++ s.1.now) × (in_limits (item_of s.0.0 s.0.1) ≡ true))) r c.read_record.ensures.read_back in
    omega (arith, read_length trace at (omega arith) (item_of c.in_ok-record.record c.in_ok-record.filled) c.in_ok-record.rest.now w.0)

pub returns : goal.returns
returns c =
    let trace = c.args.self.now.trace.now in
    let at = c.args.self.now.offset in
    let item = item_of c.in_ok-record.record c.in_ok-record.filled in
    let r : c.read_record.result ≡ Ok ((c.in_ok-record.record, c.in_ok-record.filled), c.in_ok-record.rest) = search rules in
    let w = subst (λ r. IfOk r (λ s. (drop at trace ≡ encode (item_of s.0.0 s.0.1) ++ s.1.now) × (in_limits (item_of s.0.0 s.0.1) ≡ true))) r c.read_record.ensures.read_back in
    let g = read_gave trace at c.args.buffer.now c.in_ok-record.filled item c.in_ok-record.rest.now (sym c.if-is_over.ensures) (sym (ap seen r) ∙ c.read_record.ensures.value) in
    record {
      trace = search rules;
      value = search rules;
      after = search rules;
      filled = search rules;
      noted = search rules;
      read_back = gave_back trace at (omega arith) item c.in_ok-record.rest.now w.0 w.1;
    }
