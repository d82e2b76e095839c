use Rattle.std.specs.Prelude.{ℕ, List}
use Rattle.trace.specs.declared.reader.Reader.{Reader}

-- the trace that a reader stands on
abbrev pub trace_of : Reader → List ℕ
trace_of r = r.trace.now

-- the offset where a reader's next record begins
abbrev pub next_offset : Reader → ℕ
next_offset r = r.offset
