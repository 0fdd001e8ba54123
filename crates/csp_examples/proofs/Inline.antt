-- Verdicts on inline code, string compilation and WebAssembly.
use Rattle.std.proofs.Common.{refl, [], ◌∷◌}
use Rattle.std.specs.Prelude.{codes}
use Rattle.csp_examples.proofs.OnLiterals.{verdicts_on_literals}
use Rattle.csp_examples.proofs.Cases.{case, request, Hold}
use Rattle.csp_examples.proofs.Values.{headed, allowed, blocked_by, of_nothing}
use Rattle.csp_model.specs.declared.check.Check.TheVariants as check
use Rattle.csp_model.specs.declared.check.Digests.{Digests}
use Rattle.csp_model.specs.declared.check.InlineKind.TheVariants as kind
use Rattle.csp_model.specs.declared.name.Name.TheVariants.{ScriptSrcElem, ScriptSrc, StyleSrcAttr, StyleSrc}

-- whatever the digests
pub unsafe_inline : (digests : Digests) → Hold (
    case (codes "script-src 'unsafe-inline'") (check.Inline kind.Script [] digests) allowed
    -- it counts for nothing beside a nonce, which allows the script that has it
    ∷ case (codes "script-src 'unsafe-inline' 'nonce-abc'") (check.Inline kind.Script [] digests)
    (blocked_by ScriptSrcElem ScriptSrc)
    ∷ case (codes "script-src 'unsafe-inline' 'nonce-abc'")
    (check.Inline kind.Script (codes "abc") digests) allowed
    -- nor beside 'strict-dynamic', which is nothing to styles
    ∷ case (codes "script-src 'unsafe-inline' 'strict-dynamic'") (check.Inline kind.Script [] digests)
    (blocked_by ScriptSrcElem ScriptSrc)
    ∷ case (codes "style-src 'unsafe-inline' 'strict-dynamic'") (check.Inline kind.Style [] digests) allowed
    ∷ [])
unfolding verdicts_on_literals
unsafe_inline digests = refl

pub hashes : Hold (
    -- in the alphabet for URLs too, but not without its padding
    case (codes "script-src 'sha256-47DEQpj8HBSa-_TImW-5JCeuQeRkm5NMpJWZG3hSuFU='")
    (check.Inline kind.Script [] of_nothing) allowed
    ∷ case (codes "script-src 'sha256-47DEQpj8HBSa-_TImW-5JCeuQeRkm5NMpJWZG3hSuFU'")
    (check.Inline kind.Script [] of_nothing) (blocked_by ScriptSrcElem ScriptSrc)
    -- attributes need 'unsafe-hashes' besides
    ∷ case (codes "style-src 'sha256-47DEQpj8HBSa+/TImW+5JCeuQeRkm5NMpJWZG3hSuFU='")
    (check.Inline kind.StyleAttribute [] of_nothing) (blocked_by StyleSrcAttr StyleSrc)
    ∷ case (codes "style-src 'unsafe-hashes' 'sha256-47DEQpj8HBSa+/TImW+5JCeuQeRkm5NMpJWZG3hSuFU='")
    (check.Inline kind.StyleAttribute [] of_nothing) allowed
    ∷ [])
unfolding verdicts_on_literals
hashes = refl

pub compilation : Hold (
    -- of WebAssembly alone
    case (codes "script-src 'wasm-unsafe-eval'") check.Wasm allowed
    ∷ case (codes "script-src 'wasm-unsafe-eval'") check.Eval (blocked_by ScriptSrc ScriptSrc)
    -- of strings too
    ∷ request (headed (codes "default-src 'unsafe-eval'")) (check.Eval ∷ check.Wasm ∷ []) allowed
    ∷ [])
unfolding verdicts_on_literals
compilation = refl
