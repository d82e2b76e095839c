-- how a play begins: the first record of a trace, and a new session
use Rattle.std.proofs.Common.{◌≡◌, ℕ, ◌+◌, ◌*◌, ◌/◌, ◌%◌, ◌<◌, ◌≤◌, Bool, true, false, cond, leb, List, [], ◌∷◌, length, take, drop, slice_index, Some, None, Option, sym, refl, ap, ◌∙◌, subst, arith}
use Rattle.std.specs.Borrow.{MutBor}
use Rattle.std.proofs.lemmas.Bool.{and_parts, leb-true}
use Rattle.std.proofs.lemmas.List.{length-append, length-take, get_or-take, get_or-drop}
use Rattle.std.proofs.lemmas.List.Sorted.{IsPermutation-refl}
use Rattle.backing.specs.Backing.{open_requests}
use Rattle.backing.specs.Clock.{counted_latency}
use Rattle.backing.specs.Image.{lent_bytes, lines_in}
use Rattle.backing.specs.Script.{counted_script}
use Rattle.bottom.specs.Ordered.{ordered_facts, ordered_image}
use Rattle.bottom.specs.Scripted.{scripted_facts, scripted_image}
use Rattle.hierarchy.proofs.Covered.{image_holds}
use Rattle.hierarchy.specs.AnyBottom.{bottom_facts, bottom_image}
use Rattle.hierarchy.specs.Begins.{OnImage}
use Rattle.hierarchy.specs.Hierarchy.{hierarchy_facts, hierarchy_moves, hierarchy_pace, known_hierarchy}
use Rattle.hierarchy.specs.HierarchyLaws.{hierarchy_laws}
use Rattle.hierarchy.specs.declared.any_bottom.AnyBottom.{AnyBottom}
use Rattle.hierarchy.specs.declared.any_bottom.AnyBottom.TheVariants as any_bottom
use Rattle.hierarchy.specs.declared.any_rule.AnyRule.{AnyRule}
use Rattle.line.specs.Image.{bytes_of}
use Rattle.line.specs.Size.{line_size}
use Rattle.list.specs.Zeros.{all_zero}
use Rattle.memory.specs.Limits.{most_lines, longest_script}
use Rattle.memory.specs.Meaning.{Facts}
use Rattle.memory.specs.declared.bad_line.BadLine.{BadLine}
use Rattle.player.specs.Image.{first_byte}
use Rattle.player.specs.Progress.{new_progress}
use Rattle.player.specs.Session.{NewSession}
use Rattle.player.specs.Setup.{NewBottom, setup_limits, setup_script, setup_bad_lines}
use Rattle.player.specs.declared.session.Session.{Session}
use Rattle.playing.proofs.Goes.{reaches, Stands, left_of}
use Rattle.playing.proofs.Owed.{left_new}
use Rattle.playing.proofs.Stands.{longest_pace, Opened, Told}
use Rattle.port.specs.Limits.{largest_ration}
use Rattle.port.specs.Promise.{flat}
use Rattle.trace.proofs.Laws.{decode_back}
use Rattle.trace.proofs.NumberSpelled.{Bytes}
use Rattle.trace.proofs.Runs.{encode_some, given_there}
use Rattle.trace.specs.Decode.{decode}
use Rattle.trace.specs.Encode.{encode, in_limits, is_setup}
use Rattle.trace.specs.Items.{Item, setup}
use Rattle.trace.specs.Numbers.{within}
use Rattle.trace.specs.ReadUpTo.{start, further}
use Rattle.trace.specs.Reading.{gave, reading}
use Rattle.trace.specs.declared.records.Bottom.{Bottom}
use Rattle.trace.specs.declared.records.Bottom.TheVariants.{Ordered, Scripted}
use Rattle.trace.specs.declared.records.Setup.{Setup}
use Rattle.trace.specs.declared.records.SetupBuffer.{SetupBuffer}

-- the first record that was given lies in the trace, takes a byte at least, is within its limits, and is a setup
first_is : (trace : List ℕ) → Bytes trace → (to : ℕ) (item : Item) → reading trace 0 ≡ gave item to → (0 < to) × (to ≤ length trace) × (in_limits item ≡ true) × (is_setup item ≡ true)
first_is trace bytes to item e =
    let g = given_there trace 0 item to false (decode true trace) e in
    let d = decode_back true trace bytes item g.0 g.1 in
    let some = encode_some item in
    let l : length trace ≡ length (encode item) + length g.0 = ap length d.0 ∙ length-append (encode item) g.0 in
    (omega (arith, g.2), omega (arith, g.2), d.1, d.2)

-- the first record that was given takes a byte at least, lies in the trace, and is within its limits
pub first_given : (trace : List ℕ) → Bytes trace → (to : ℕ) (item : Item) → reading trace 0 ≡ gave item to → (0 < to) × (to ≤ length trace) × (in_limits item ≡ true)
first_given trace bytes to item e = let f = first_is trace bytes to item e in (f.0, f.1, f.2)

-- and it is a setup
pub first_setup : (trace : List ℕ) → Bytes trace → (to : ℕ) (item : Item) → reading trace 0 ≡ gave item to → is_setup item ≡ true
first_setup trace bytes to item e = (first_is trace bytes to item e).3

-- a setup within its limits names no more lines than a memory has
few_lines : (s : Setup) (b : SetupBuffer) → setup_limits s b ≡ true → s.lines ≤ most_lines
few_lines s b limits =
    let lines = (and_parts (within 1 most_lines s.lines) _ limits).0 in
    leb-true s.lines most_lines (and_parts (leb 1 s.lines) (leb s.lines most_lines) lines).1

-- the bytes of so many lines have so many lines
all_lines : (lines : ℕ) → lines ≤ most_lines → lines_in (line_size * lines) ≡ lines
all_lines lines few = omega arith

-- a byte of a line is the byte of the image at its address
byte_of_line : (image : List ℕ) (line i : ℕ) → i < line_size → slice_index (bytes_of image line) i ≡ slice_index image (line_size * line + i)
byte_of_line image line i within = get_or-take 16 (drop (16 * line) image) i 0 within ∙ get_or-drop (16 * line) image i 0

-- a latency that counts is no longer than the longest
short_latency : (latency : ℕ) → counted_latency latency ≤ 64
short_latency latency = omega arith

-- and neither is a script that counts
short_script : (script : List ℕ) → length (counted_script script) ≤ 64
short_script script = go (all_zero (take longest_script script))
  where
    go : (b : Bool) → length (cond b (1 ∷ []) (take longest_script script)) ≤ 64
    go true = omega arith
    go false = let l = length-take longest_script script in omega arith

-- a new memory has the image that it stands on, with its bad lines, and its pace is short
bottom_begins : (kind : Bottom) (script : List ℕ) (bad_lines : List BadLine) (memory : AnyBottom) → NewBottom kind script bad_lines memory → OnImage (lent_bytes (bottom_image memory)).now 0 bad_lines (bottom_facts memory) × ((bottom_facts memory).pace ≤ 64)
bottom_begins (Ordered latency) script bad_lines (any_bottom.Ordered memory) new =
    let f = ordered_facts memory in
    let short = short_latency latency in
    let is : f.pace ≡ counted_latency latency = new.2 in
    (image_holds (ordered_image memory) (open_requests memory.backing) f.owed f.pace refl new.0.0 new.0.1, omega (arith, short, is))
bottom_begins (Scripted n) script bad_lines (any_bottom.Scripted memory) new =
    let f = scripted_facts memory in
    let short = short_script script in
    let is : f.pace ≡ length (counted_script script) = ap length new.1 in
    (image_holds (scripted_image memory) (open_requests memory.backing) f.owed f.pace refl new.0.0 new.0.1, omega (arith, short, is))
bottom_begins (Ordered latency) script bad_lines (any_bottom.Scripted memory) new = absurd new
bottom_begins (Scripted n) script bad_lines (any_bottom.Ordered memory) new = absurd new

-- one level or two on a memory with a short pace have no longer pace than the longest
short_pace : (upper : Option AnyRule) (pace : ℕ) → pace ≤ 64 → hierarchy_pace upper pace ≤ longest_pace
short_pace None pace short = omega arith
short_pace (Some rule) pace short = omega arith

-- what is known of the hierarchy of a new session
pub session_opened : {s : Setup} {b : SetupBuffer} {offset : ℕ} {lowest : AnyRule} {upper : Option AnyRule} {bytes : MutBor (List ℕ)} {t : Session} → setup_limits s b ≡ true → length bytes.now ≡ line_size * s.lines → (new : NewSession s b offset lowest upper bytes t) → Opened s.lines (setup_bad_lines s b) (hierarchy_facts new.hierarchy)
session_opened {s} {b} {offset} {lowest} {upper} {bytes} {t} limits long new =
    let begins = bottom_begins s.bottom (setup_script s b) (setup_bad_lines s b) new.bottom new.bottom_new in
    let image = (lent_bytes (bottom_image new.bottom)).now in
    let few = few_lines s b limits in
    let short = short_pace upper (bottom_facts new.bottom).pace begins.1 in
    let pace = new.covers.pace in
    record {
      lines_are = new.covers.lines ∙ begins.0.lines ∙ ap lines_in (new.first.size_is ∙ long) ∙ all_lines s.lines few;
      bytes_are = λ line i below within. ap (λ held. slice_index held i) (new.covers.contents line ∙ begins.0.contents line) ∙ byte_of_line image line i within ∙ new.first.bytes_are (line_size * line + i) (omega arith);
      bad_are = λ line. new.covers.bad line ∙ begins.0.bad line;
      pace_is = omega (arith, short, pace);
      idle = new.idle;
    }

-- flat memory at the opening has the bytes as they are at the start
flat_first : (lines : ℕ) (bad_lines : List BadLine) (o : Facts) → Opened lines bad_lines o → (a : ℕ) → a < line_size * lines → flat o [] a ≡ first_byte a
flat_first lines bad_lines o opened a below =
    let whole : line_size * (a / line_size) + a % line_size ≡ a = omega arith in
    opened.bytes_are (a / line_size) (a % line_size) (omega arith) (omega arith) ∙ ap first_byte whole

-- before the first call nothing was told, and nothing was to be
told_first : (lines : ℕ) (bad_lines : List BadLine) (o : Facts) → Opened lines bad_lines o → Told lines bad_lines o [] [] None []
told_first lines bad_lines o opened = record { accepted_is = refl; flat_is = flat_first lines bad_lines o opened; answers = IsPermutation-refl []; others = refl }

-- a new session stands at the start: nothing was written, and no record behind the setup was carried out
pub session_starts : (trace : List ℕ) (all : Bytes trace) {s : Setup} {b : SetupBuffer} {offset : ℕ} {lowest : AnyRule} {upper : Option AnyRule} {bytes : MutBor (List ℕ)} {t : Session} → reading trace 0 ≡ gave (setup s (setup_script s b) (setup_bad_lines s b)) offset → (new : NewSession s b offset lowest upper bytes t) → (opened : Opened s.lines (setup_bad_lines s b) (hierarchy_facts new.hierarchy)) → Stands trace all s (setup_script s b) (setup_bad_lines s b) new.hierarchy opened [] t.progress t.port
session_starts trace all {s} {b} {offset} {lowest} {upper} {bytes} {t} gives new opened =
    let first = first_given trace all offset (setup s (setup_script s b) (setup_bad_lines s b)) gives in
    let stands : Stands trace all s (setup_script s b) (setup_bad_lines s b) new.hierarchy opened [] (new_progress offset) t.port =
    record {
      items = [];
      cut = None;
      read = reaches (further start gives) first.0 first.1;
      at = record {
        index = refl;
        log = [];
        came = new.opened;
        told = told_first s.lines (setup_bad_lines s b) (hierarchy_facts new.hierarchy) opened;
        steps = refl;
        enough = omega arith;
      };
    } in
    subst (λ p. Stands trace all s (setup_script s b) (setup_bad_lines s b) new.hierarchy opened [] p t.port) (sym new.progress) stands

-- a new session has no more left to do than its trace is worth
pub session_bounded : (trace : List ℕ) (all : Bytes trace) {s : Setup} {b : SetupBuffer} {offset : ℕ} {lowest : AnyRule} {upper : Option AnyRule} {bytes : MutBor (List ℕ)} {t : Session} → reading trace 0 ≡ gave (setup s (setup_script s b) (setup_bad_lines s b)) offset → (new : NewSession s b offset lowest upper bytes t) → (opened : Opened s.lines (setup_bad_lines s b) (hierarchy_facts new.hierarchy)) → left_of trace all s (setup_script s b) (setup_bad_lines s b) new.hierarchy opened t.progress t.port ≤ 1001 * length trace + 1
session_bounded trace all {s} {b} {offset} {lowest} {upper} {bytes} {t} gives new opened =
    let none = left_new known_hierarchy hierarchy_moves hierarchy_laws new.hierarchy largest_ration opened.idle t.port new.opened in
    let bounded : left_of trace all s (setup_script s b) (setup_bad_lines s b) new.hierarchy opened (new_progress offset) t.port ≤ 1001 * length trace + 1 = omega (arith, none) in
    subst (λ p. left_of trace all s (setup_script s b) (setup_bad_lines s b) new.hierarchy opened p t.port ≤ 1001 * length trace + 1) (sym new.progress) bounded
