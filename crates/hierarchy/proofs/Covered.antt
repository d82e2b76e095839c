use Rattle.std.proofs.Common.{◌≡◌, ℕ, List, ◌∙◌, ap, refl, subst, arith, ◌<◌, length}
use Rattle.std.specs.Borrow.{MutBor}
use Rattle.backing.specs.Facts.{facts_with}
use Rattle.backing.specs.Image.{bad_lines_of, counted_bad_lines, lent_bytes, level_of, lines_in}
use Rattle.backing.specs.declared.image.Image.{Image}
use Rattle.backing.specs.declared.requests.Request.{Request}
use Rattle.hierarchy.specs.Begins.{OnImage}
use Rattle.level_model.specs.Facts.{Covers}
use Rattle.line.specs.Image.{bytes_of}
use Rattle.memory.specs.Meaning.{Facts, Idle, Well}
use Rattle.memory.specs.declared.bad_line.BadLine.{BadLine}

-- a memory on a new image
pub image_holds : {lent : MutBor (List ℕ)} {level : ℕ} {bad_lines : List BadLine} (i : Image) (rs : List Request) (owed pace : ℕ) → lent_bytes i ≡ lent → level_of i ≡ level → bad_lines_of i ≡ counted_bad_lines bad_lines → OnImage lent.now level bad_lines (facts_with i rs owed pace)
image_holds i rs owed pace bytes number bad = record {
  lines = ap (λ b. lines_in (length b.now)) bytes;
  contents = λ line. ap (λ b. bytes_of b.now line) bytes;
  bad = λ line. rw (number, bad) refl;
}

-- a level that holds nothing has the image that the memory below has
pub image_covered : {image : List ℕ} {level : ℕ} {bad_lines : List BadLine} {f h : Facts} → OnImage image level bad_lines f → Covers f h → OnImage image level bad_lines h
image_covered on c = record { lines = c.lines ∙ on.lines; contents = λ line. c.contents line ∙ on.contents line; bad = λ line. c.bad line ∙ on.bad line }

-- what is true of a memory at all times is true of an idle level that holds nothing, if it is of the memory below
pub well_covered : {f h : Facts} → Well f → Covers f h → Idle h → Well h
well_covered w c idle = record {
  few = rw c.lines w.few;
  whole = λ line within. rw (c.contents line) (w.whole line (subst (λ n. line < n) c.lines within));
  paced = let p = c.pace in omega (arith, p);
  owing = λ ticket opened. absurd (let n = idle.none_open ticket in cc);
}
