-- what is known of a run, under other names of the same things
use Rattle.std.proofs.Common.{◌≡◌, ℕ, List, subst}
use Rattle.memory.specs.declared.bad_line.BadLine.{BadLine}
use Rattle.port.specs.declared.run.Entry.{Entry}
use Rattle.runs.specs.Kept.{KeptOnImage}

-- a kept promise, of an image, a pace and entries that are equal to these
pub carried : {image mid : List ℕ} {bad_lines : List BadLine} {p q ration : ℕ} {before asked after made : List Entry} → image ≡ mid → p ≡ q → before ≡ asked → after ≡ made → KeptOnImage image bad_lines p ration before after → KeptOnImage mid bad_lines q ration asked made
carried {image} {mid} {bad_lines} {p} {q} {ration} {before} {asked} {after} {made} images paces befores afters kept =
    subst (λ x. KeptOnImage mid bad_lines q ration asked x) afters (subst (λ x. KeptOnImage mid bad_lines q ration x after) befores (subst (λ x. KeptOnImage mid bad_lines x ration before after) paces (subst (λ x. KeptOnImage x bad_lines p ration before after) images kept)))
