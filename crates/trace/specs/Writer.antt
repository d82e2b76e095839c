use Rattle.std.specs.Prelude.{ℕ, List}
use Rattle.std.specs.Borrow.{GName}
use Rattle.trace.specs.declared.writer.Writer.{Writer}

-- the bytes of the buffer that a writer is lent
abbrev pub buffer_of : Writer → List ℕ
buffer_of w = w.buffer.now

-- how many of them stand written
abbrev pub written_of : Writer → ℕ
written_of w = w.written

-- the ghost name of the reference to the buffer
abbrev pub lender_of : Writer → GName
lender_of w = w.buffer.ghost_name
