use Rattle.std.proofs.Common.{arith, refl, ◌∙◌}
use Rattle.base64.specs.Engines.{standard}
use Rattle.base64.specs.GeneralPurpose.{IsBytes}
use Rattle.base64.proofs.EngineFacts.{decode_of_strict}
use Rattle.csp_model.specs.Tokens.{plain_value}
use Rattle.csp_token.proofs.Base64.{short, refused, same_size, IsBytes-plain_value}
use Rattle.csp_token.proofs.Sizes.{bytes_of_size}
use Rattle.csp_token.proofs.base64_value.decode.Goals as goal

pub returns-then-value-gt-MOST_SYMBOLS-clause-none : goal.returns-then-value-gt-MOST_SYMBOLS-clause-none
returns-then-value-gt-MOST_SYMBOLS-clause-none g c = λ _ bytes size eq.
    absurd (omega (arith, short c.args.value.now bytes g.row.N size.0 c.requires eq))

pub returns-in-Err-clause-none : goal.returns-in-Err-clause-none
returns-in-Err-clause-none g c = λ _ bytes size eq.
    refused c.args.value.now bytes c.in-Err.field-0 (bytes_of_size g.row.N bytes size) eq
    (rw (c.write_plain.ensures, c.as_bytes.ensures.value) at c.in-Err.ensures.err)

pub returns-then-count-clause-none : goal.returns-then-count-clause-none
returns-then-count-clause-none g c = λ _ bytes size eq.
    let into = rw (c.write_plain.ensures, c.as_bytes.ensures.value) at c.in-Ok.ensures.ok in
    c.if-count.true (same_size c.args.value.now bytes _ c.decode_slice_unchecked.new.output g.row.N c.in-Ok.count
    (bytes_of_size g.row.N bytes size) size.0 c.decode_slice_unchecked.auto.output eq into)

pub returns-clause-some : goal.returns-clause-some
returns-clause-some g c =
    let into = rw (c.write_plain.ensures, c.as_bytes.ensures.value) at c.in-Ok.ensures.ok in
    let small : IsBytes c.args.value.now = λ i. omega (arith, c.type_inv.value i) in
    let whole = decode_of_strict standard (plain_value c.args.value.now) _ (refl, refl) (IsBytes-plain_value _ small) into.0 in
    let n = c.if-count.false in
    whole ∙ rw (c.copy_from_slice.ensures.after, n) refl
