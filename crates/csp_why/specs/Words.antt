-- How rules and words are told.
use Rattle.std.specs.Prelude.{ℕ, List, codes}
use Rattle.csp_why.specs.declared.reason.Rule.{Rule}
use Rattle.csp_why.specs.declared.reason.Rule.TheVariants as rule
use Rattle.csp_why.specs.declared.reason.Obstacle.{Obstacle}
use Rattle.csp_why.specs.declared.reason.Obstacle.TheVariants as word

abbrev pub rule_text : Rule → List ℕ
rule_text rule.Source = codes "source"
rule_text rule.Nonce = codes "nonce"
rule_text rule.Integrity = codes "integrity"
rule_text rule.Hash = codes "hash"
rule_text rule.StrictDynamic = codes "strict-dynamic"
rule_text rule.UnsafeInline = codes "unsafe-inline"
rule_text rule.UnsafeEval = codes "unsafe-eval"
rule_text rule.WasmUnsafeEval = codes "wasm-unsafe-eval"
rule_text rule.Capability = codes "capability"

abbrev pub word_text : Obstacle → List ℕ
word_text word.Scheme = codes "scheme"
word_text word.Port = codes "port"
word_text word.Path = codes "path"
word_text word.Suffix = codes "suffix"
word_text word.StrictDynamic = codes "strict-dynamic"
word_text word.Nonce = codes "nonce"
word_text word.Hash = codes "hash"
word_text word.UnsafeHashes = codes "unsafe-hashes"
word_text word.Integrity = codes "integrity"
word_text word.AllowScripts = codes "allow-scripts"
word_text word.AllowSameOrigin = codes "allow-same-origin"
