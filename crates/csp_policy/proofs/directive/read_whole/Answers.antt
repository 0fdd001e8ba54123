use Rattle.std.proofs.Common.{arith, ◌∙◌, ℕ, ◌+◌, ◌≤◌, List, length, Result, Ok, Err, IfOk}
use Rattle.std.specs.Char.{is_ascii_whitespace}
use Rattle.std.proofs.lemmas.List.Splits.{length-slice_split}
use Rattle.std.proofs.lemmas.List.Sums.{count_by-le-length, length-filter}
use Rattle.std.specs.List.{slice_split}
use Rattle.csp_model.specs.Ascii.{is_nonempty, words}
use Rattle.csp_policy.proofs.Shortened.{fits}
use Rattle.csp_policy.proofs.directive.read_whole.Goals as goal

-- a text has no more words than bytes, but for one
few_words : (text : List ℕ) → length (words text) ≤ length text + 1
few_words text =
    let pieces = length-slice_split is_ascii_whitespace text in
    let spaces = count_by-le-length is_ascii_whitespace text in
    let kept = length-filter is_nonempty (slice_split is_ascii_whitespace text) in
    let some = count_by-le-length is_nonempty (slice_split is_ascii_whitespace text) in
    omega arith

if_so : {A E : Type 0} {P Q : A → Type 0} → ((a : A) → P a → Q a) → (r : Result A E) → IfOk r P → IfOk r Q
if_so so (Ok a) h = so a h
if_so so (Err e) h = tt

pub returns : goal.returns
returns c =
    if_so (λ made is. is ∙ fits (length c.args.text.now + 1) c.args.name.now (words c.args.text.now) (few_words c.args.text.now))
    c.read_directive.result c.read_directive.ensures.made
