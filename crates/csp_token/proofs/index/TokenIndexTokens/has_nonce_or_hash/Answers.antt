use Rattle.std.proofs.Common.{arith, ◌≡◌, ◌∙◌, ◌==◌, ◌||◌, not, ap}
use Rattle.std.specs.BTreeSet.{btree_set_len}
use Rattle.std.specs.List.{list_any}
use Rattle.std.proofs.lemmas.Grind.{common_steps}
use Rattle.csp_model.specs.Inline.{is_nonce_or_hash}
use Rattle.csp_token.specs.Index.{is_empty}
use Rattle.csp_token.proofs.IndexEmpty.{nonce_or_hash_known}
use Rattle.csp_token.proofs.index.TokenIndexTokens.has_nonce_or_hash.Goals as goal

pub returns-then-not-is_empty : goal.returns-then-not-is_empty
returns-then-not-is_empty c =
    let known : (not (btree_set_len c.self.inside.nonces == 0) || not (is_empty c.self.inside.pairs)) ≡ list_any is_nonce_or_hash c.args.self.now =
    nonce_or_hash_known c.self.inside.sources.now c.self.inside.nonces c.self.inside.pairs c.self.invariant.has_nonces c.self.invariant.has_pairs ∙ ap (list_any is_nonce_or_hash) c.self.view_is in
    grind (arith, common_steps, known)

pub returns-else-not-is_empty : goal.returns-else-not-is_empty
returns-else-not-is_empty c =
    let known : (not (btree_set_len c.self.inside.nonces == 0) || not (is_empty c.self.inside.pairs)) ≡ list_any is_nonce_or_hash c.args.self.now =
    nonce_or_hash_known c.self.inside.sources.now c.self.inside.nonces c.self.inside.pairs c.self.invariant.has_nonces c.self.invariant.has_pairs ∙ ap (list_any is_nonce_or_hash) c.self.view_is in
    grind (arith, common_steps, known)
