use Rattle.std.proofs.Common.{◌≡◌, ◌∷◌, ◌++◌, drop, string_bytes}
use Rattle.std.specs.List.{flat_map}
use Rattle.csp_model.specs.Ascii.{code}
use Rattle.csp_token.specs.Integrity.{hash_text, integrity_text}
use Rattle.csp_token.proofs.integrity.integrity_text.Given as goal

-- what is printed, and the pairs that are left, are all pairs
abbrev pub invariant-loop-pair : goal.invariant-loop-pair
invariant-loop-pair l =
    string_bytes l.text ++ flat_map (λ pair. code " " ∷ hash_text pair) (drop l.pair-index l.others) ≡ integrity_text l.integrity
