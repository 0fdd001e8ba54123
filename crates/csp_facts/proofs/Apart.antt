-- Two shapes with one number are one shape.
use Rattle.std.proofs.Common.{◌≡◌, ◌<◌, ◌≤◌, IsTrue, Bool, not, ◌||◌, refl, ap, Option, arith}
use denote.Enum.Declared.{tag_of}
use Rattle.csp_model.specs.contracts.check.Capability.{the_type as capability}
use Rattle.csp_model.specs.contracts.check.InlineKind.{the_type as inline}
use Rattle.csp_model.specs.declared.check.Capability.{Capability}
use Rattle.csp_model.specs.declared.check.Group.{Group}
use Rattle.csp_model.specs.declared.check.InlineKind.{InlineKind}
use Rattle.csp_model.specs.declared.url.Scheme.{Scheme}
use Rattle.csp_facts.specs.Numbers.{flag, scheme_number, url_number, fetch_number, number}
use Rattle.csp_facts.specs.Shapes.{tells_parser, is_shape}
use Rattle.csp_facts.specs.declared.shape.Shape.{Shape}
use Rattle.csp_facts.specs.declared.shape.Shape.TheVariants as shape

flag_bound : (b : Bool) → flag b ≤ 1
flag_bound b = grind arith

scheme_bound : (scheme : Option Scheme) → scheme_number scheme < 6
scheme_bound scheme = grind arith

url_bound : (scheme : Option Scheme) (redirected : Bool) → url_number scheme redirected < 12
url_bound scheme redirected = grind arith

fetch_bound : (kind : Group) (parser : Bool) → fetch_number kind parser < 12
fetch_bound kind parser = grind arith

inline_bound : (kind : InlineKind) → tag_of inline kind < 5
inline_bound kind = grind arith

capability_bound : (which : Capability) → tag_of capability which < 12
capability_bound which = grind arith

one_scheme : (s t : Option Scheme) → scheme_number s ≡ scheme_number t → s ≡ t
one_scheme s t e = grind arith

one_url : (s t : Option Scheme) (r q : Bool) → url_number s r ≡ url_number t q → (s ≡ t) × (r ≡ q)
one_url s t r q e = grind arith

one_fetch : (g h : Group) (p q : Bool) → IsTrue (not p || tells_parser g) → IsTrue (not q || tells_parser h) → fetch_number g p ≡ fetch_number h q → (g ≡ h) × (p ≡ q)
one_fetch g h p q a b e = grind arith

one_inline : (s t : InlineKind) → tag_of inline s ≡ tag_of inline t → s ≡ t
one_inline s t e = grind arith

one_capability : (s t : Capability) → tag_of capability s ≡ tag_of capability t → s ≡ t
one_capability s t e = grind arith

pub one_shape : (first second : Shape) → IsTrue (is_shape first) → IsTrue (is_shape second) → number first ≡ number second → first ≡ second
one_shape (shape.Fetch g s r p) (shape.Fetch h t q o) a b e =
    let u = url_bound s r in
    let v = url_bound t q in
    let (same_group, same_parser) = one_fetch g h p o a b (omega (arith, u, v, e)) in
    let same_url = one_url s t r q (omega (arith, u, v, e)) in
    cc
one_shape (shape.Form s r) (shape.Form t q) a b e = let same_url = one_url s t r q (omega arith) in cc
one_shape (shape.Base s) (shape.Base t) a b e = ap shape.Base (one_scheme s t (omega arith))
one_shape (shape.Ancestor s) (shape.Ancestor t) a b e = ap shape.Ancestor (one_scheme s t (omega arith))
one_shape shape.OpaqueAncestor shape.OpaqueAncestor a b e = refl
one_shape (shape.Inline s) (shape.Inline t) a b e = ap shape.Inline (one_inline s t (omega arith))
one_shape shape.Eval shape.Eval a b e = refl
one_shape shape.Wasm shape.Wasm a b e = refl
one_shape (shape.Capability s) (shape.Capability t) a b e = ap shape.Capability (one_capability s t (omega arith))
one_shape shape.WorkerStart shape.WorkerStart a b e = refl
one_shape first second a b e = absurd (omega (arith, fetch_bound, scheme_bound, flag_bound, inline_bound, capability_bound))
