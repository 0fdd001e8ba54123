-- Kinds of descriptions, and of inline code and style, as they are written.
use Rattle.std.specs.Prelude.{ℕ, List, [], ◌∷◌, Option, codes}
use Rattle.std.specs.List.{find}
use Rattle.std.specs.Str.{bytes_eq}
use Rattle.csp_model.specs.declared.check.InlineKind.{InlineKind}
use Rattle.csp_model.specs.declared.check.InlineKind.TheVariants as inline
use Rattle.csp_request.specs.declared.kind.DescriptionKind.{DescriptionKind}
use Rattle.csp_request.specs.declared.kind.DescriptionKind.TheVariants as kind

abbrev pub kind_text : DescriptionKind → List ℕ
kind_text kind.Fetch = codes "fetch"
kind_text kind.Inline = codes "inline"
kind_text kind.Eval = codes "eval"
kind_text kind.Wasm = codes "wasm"
kind_text kind.Base = codes "base"
kind_text kind.Form = codes "form"
kind_text kind.Ancestors = codes "ancestors"
kind_text kind.Capability = codes "capability"
kind_text kind.WorkerStart = codes "worker-start"

abbrev pub kinds : List DescriptionKind
kinds = kind.Fetch ∷ kind.Inline ∷ kind.Eval ∷ kind.Wasm ∷ kind.Base ∷ kind.Form ∷ kind.Ancestors
    ∷ kind.Capability ∷ kind.WorkerStart ∷ []

abbrev pub kind_named : List ℕ → Option DescriptionKind
kind_named name = find (λ k. bytes_eq name (kind_text k)) kinds

abbrev pub inline_text : InlineKind → List ℕ
inline_text inline.Script = codes "script"
inline_text inline.ScriptAttribute = codes "script-attribute"
inline_text inline.Style = codes "style"
inline_text inline.StyleAttribute = codes "style-attribute"
inline_text inline.Navigation = codes "navigation"

abbrev pub inline_kinds : List InlineKind
inline_kinds = inline.Script ∷ inline.ScriptAttribute ∷ inline.Style ∷ inline.StyleAttribute
    ∷ inline.Navigation ∷ []

abbrev pub inline_named : List ℕ → Option InlineKind
inline_named name = find (λ k. bytes_eq name (inline_text k)) inline_kinds
