-- Words of contracts and laws: what a reader of pieces hands out, with no loans, and the policy that is kept of it.
use Rattle.std.specs.Prelude.{ℕ, List}
use Rattle.std.specs.List.{filter_map}
use Rattle.csp_model.specs.Policies.{policy_with}
use Rattle.csp_policy.specs.Types.{Policy, Origin, Fate, Piece, SerializedPolicy}
use Rattle.csp_policy.specs.Fates.{Serialized, fates, kept}

-- the piece, and what becomes of it
abbrev pub piece_said : Piece → (List ℕ × Fate)
piece_said piece = (piece.text.now, piece.fate)

abbrev pub serialized_said : SerializedPolicy → Serialized
serialized_said s = record { line = s.line; disposition = s.disposition; meta = s.meta; text = s.text.now }

-- the policy of the pieces that are kept, where one is
abbrev pub policy_kept : Origin → Serialized → List Policy
policy_kept origin s = policy_with origin s.disposition s.meta (filter_map kept (fates s.meta s.text))
