-- The shape that a check has, which is one of the shapes and the only one.
use Rattle.std.proofs.Common.{◌≡◌, IsTrue, Bool, true, false, not, ◌&&◌, ◌||◌, refl}
use Rattle.csp_model.specs.Fetch.{is_redirected}
use Rattle.csp_model.specs.declared.check.Check.{Check}
use Rattle.csp_model.specs.declared.check.Check.TheVariants as check
use Rattle.csp_facts.specs.Shapes.{HasShape, hosted_scheme, is_shape, tells_parser}
use Rattle.csp_facts.specs.declared.shape.Shape.{Shape}
use Rattle.csp_facts.specs.declared.shape.Shape.TheVariants as shape

abbrev pub shape_of : Check → Shape
shape_of (check.Fetch group there redirects nonce integrity parser_inserted) = shape.Fetch group (hosted_scheme there) (is_redirected redirects) (tells_parser group && parser_inserted)
shape_of (check.Form there redirects) = shape.Form (hosted_scheme there) (is_redirected redirects)
shape_of (check.Base there) = shape.Base (hosted_scheme there)
shape_of (check.Ancestor there) = shape.Ancestor (hosted_scheme there)
shape_of check.OpaqueAncestor = shape.OpaqueAncestor
shape_of (check.Inline kind nonce digests) = shape.Inline kind
shape_of check.Eval = shape.Eval
shape_of check.Wasm = shape.Wasm
shape_of (check.Capability capability) = shape.Capability capability
shape_of check.WorkerStart = shape.WorkerStart

pub shaped : (asked : Check) → HasShape asked (shape_of asked)
shaped (check.Fetch group there redirects nonce integrity parser_inserted) = (refl, refl, refl, refl)
shaped (check.Form there redirects) = (refl, refl)
shaped (check.Base there) = refl
shaped (check.Ancestor there) = refl
shaped check.OpaqueAncestor = tt
shaped (check.Inline kind nonce digests) = refl
shaped check.Eval = tt
shaped check.Wasm = tt
shaped (check.Capability capability) = refl
shaped check.WorkerStart = tt

listed : (told inserted : Bool) → IsTrue (not (told && inserted) || told)
listed true true = refl
listed true false = refl
listed false inserted = refl

pub is_listed : (asked : Check) → IsTrue (is_shape (shape_of asked))
is_listed (check.Fetch group there redirects nonce integrity parser_inserted) = listed (tells_parser group) parser_inserted
is_listed asked = refl

pub is_only : (asked : Check) (kind : Shape) → HasShape asked kind → kind ≡ shape_of asked
is_only (check.Fetch group there redirects nonce integrity parser_inserted) (shape.Fetch same scheme redirected parser) h = cc
is_only (check.Form there redirects) (shape.Form scheme redirected) h = cc
is_only (check.Base there) (shape.Base scheme) h = cc
is_only (check.Ancestor there) (shape.Ancestor scheme) h = cc
is_only check.OpaqueAncestor shape.OpaqueAncestor h = refl
is_only (check.Inline kind nonce digests) (shape.Inline same) h = cc
is_only check.Eval shape.Eval h = refl
is_only check.Wasm shape.Wasm h = refl
is_only (check.Capability capability) (shape.Capability same) h = cc
is_only check.WorkerStart shape.WorkerStart h = refl
is_only asked kind h = absurd h
