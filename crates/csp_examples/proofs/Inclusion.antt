-- A list that is stricter than another.
use Rattle.std.proofs.Common.{refl}
use Rattle.std.specs.Prelude.{codes}
use Rattle.std.proofs.lemmas.Bool.{false≢true}
use Rattle.csp_model.specs.Inclusion.{Subsumes}
use Rattle.csp_examples.proofs.OnLiterals.{verdicts_on_literals}
use Rattle.csp_examples.proofs.Validity.{a_valid_check}
use Rattle.csp_examples.proofs.Values.{elsewhere, image, headed}
use Rattle.csp_model.specs.declared.check.Check.TheVariants as check
use Rattle.csp_model.specs.declared.check.Group.TheVariants as group
use Rattle.csp_model.specs.declared.check.InlineKind.TheVariants as kind
use Rattle.csp_model.specs.declared.policy.PolicyList.{PolicyList}

abbrev no_images : PolicyList
no_images = headed (codes "img-src 'none'")

abbrev all_secure : PolicyList
all_secure = headed (codes "img-src https:")

pub no_image_is_the_stricter : Subsumes no_images all_secure
unfolding verdicts_on_literals
no_image_is_the_stricter (check.Fetch group.Img url redirects nonce integrity parser_inserted) valid allows =
    absurd (false≢true allows)
no_image_is_the_stricter (check.Inline kind.Script nonce digests) valid allows = refl
no_image_is_the_stricter asked valid allows = refl

pub some_images_are_the_looser : ¬ Subsumes all_secure no_images
unfolding verdicts_on_literals
some_images_are_the_looser fewer = false≢true (fewer (image elsewhere) a_valid_check refl)
