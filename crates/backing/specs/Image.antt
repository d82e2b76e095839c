use Rattle.std.specs.Prelude.{ℕ, ◌/◌, Bool, if◌then◌else◌, List, length, take, Some, None, Option, min, nat_lt}
use Rattle.std.specs.Borrow.{MutBor}
use Rattle.std.specs.Option.{option_map}
use Rattle.line.specs.Image.{bytes_of, image_laid}
use Rattle.line.specs.Size.{line_size}
use Rattle.list.specs.Keyed.{entry_of}
use Rattle.memory.specs.Limits.{most_lines, most_bad_lines}
use Rattle.memory.specs.Replies.{read_due, write_due, written_on}
use Rattle.memory.specs.declared.bad_line.BadLine.{BadLine}
use Rattle.memory.specs.declared.replies.Fault.{Fault}
use Rattle.memory.specs.declared.replies.Reply.{Reply}
use Rattle.backing.specs.declared.image.Image.{Image}

-- the bytes that a caller lent
abbrev pub lent_bytes : Image → MutBor (List ℕ)
lent_bytes i = i.bytes

-- the level that its faults name
abbrev pub level_of : Image → ℕ
level_of i = i.level

-- its pairs of a bad line and a cause
abbrev pub bad_lines_of : Image → List BadLine
bad_lines_of i = i.bad_lines.items

-- of the pairs that are given, as many count as a memory has bad lines at most
abbrev pub counted_bad_lines : List BadLine → List BadLine
counted_bad_lines pairs = take most_bad_lines pairs

-- how many lines so many bytes have: as many as they hold whole, and no more than a memory has
abbrev pub lines_in : ℕ → ℕ
lines_in bytes = min (bytes / line_size) most_lines

-- how many lines an image has
abbrev pub line_count : Image → ℕ
line_count i = lines_in (length i.bytes.now)

-- the bytes of a line
abbrev pub contents_of : Image → ℕ → List ℕ
contents_of i line = bytes_of i.bytes.now line

-- of pairs of a bad line and a cause the one that counts for a line: the first that has it
abbrev pub bad_line_at : ℕ → List BadLine → Option BadLine
bad_line_at line pairs = entry_of (λ bad. bad.line) line pairs

-- the fault of a line: it names the image's level, the line, and the cause of the pair that counts for it
abbrev pub fault_of : Image → ℕ → Option Fault
fault_of i line = option_map (λ bad. record { level = i.level; line = line; cause = bad.cause }) (bad_line_at line (bad_lines_of i))

-- whether an image has such a line
abbrev pub has_line : Image → ℕ → Bool
has_line i line = nat_lt line (line_count i)

-- what is due to a read of a line, if there is such a line
abbrev pub read_reply : Image → ℕ → Option Reply
read_reply i line = if has_line i line then Some (read_due (fault_of i line) (contents_of i line)) else None

-- what is due to a write to a line, if there is such a line
abbrev pub write_reply : Image → ℕ → Option Reply
write_reply i line = if has_line i line then Some (write_due (fault_of i line)) else None

-- an image that holds other bytes, on what the same caller lent
abbrev pub with_bytes : Image → List ℕ → Image
with_bytes i bytes = record i { bytes = record i.bytes { now = bytes } }

-- an image after a write to a line: the new bytes are laid on the line, if there is such a line and it is good
abbrev pub image_written : Image → ℕ → ℕ → List ℕ → Image
image_written i line mask new =
    with_bytes i (if has_line i line then written_on (fault_of i line) i.bytes.now (image_laid i.bytes.now line mask new) else i.bytes.now)
