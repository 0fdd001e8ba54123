use Rattle.std.proofs.Common.{arith, ◌≡◌, refl, length}
use Rattle.std.proofs.lemmas.Bool.Decides.{same_from_decides}
use Rattle.std.proofs.lemmas.Slice.Eq.{bytes_eq-Decides}
use Rattle.base64.specs.Engines.{standard}
use Rattle.base64.specs.GeneralPurpose.{encode_of}
use Rattle.csp_model.specs.Tokens.{plain_value}
use Rattle.csp_model.proofs.Deciding.{no}
use Rattle.csp_token.proofs.Base64.{short}
use Rattle.csp_token.proofs.base64_value.stands_for.Goals as goal

pub returns-then-value-gt-MOST_SYMBOLS : goal.returns-then-value-gt-MOST_SYMBOLS
returns-then-value-gt-MOST_SYMBOLS c =
    let long = λ (eq : plain_value c.args.value.now ≡ encode_of standard c.args.bytes.now).
    absurd (omega (arith, short c.args.value.now c.args.bytes.now (length c.args.bytes.now) refl c.requires eq)) in
    same_from_decides _ _ (no long) (bytes_eq-Decides _ _)
