-- The atom of the digest that a source stands for.
use Rattle.std.proofs.Common.{◌≡◌, refl, Option, Some, None}
use Rattle.std.specs.Option.{option_map}
use Rattle.csp_model.specs.declared.check.Digest.{Digest}
use Rattle.csp_model.specs.declared.source.Source.{Source}
use Rattle.csp_model.specs.declared.source.Source.TheVariants as source
use Rattle.csp_facts.specs.declared.atom.Atom.TheVariants.{DigestIs}
use Rattle.csp_formula.specs.Compiled.{digest_of, digest_fact}
use Rattle.csp_formula.specs.Sentences.{Sentence, Fact}
use Rattle.csp_answer.specs.Naming.{digest_atom}

abbrev fact_of : Option Digest → Option Sentence
fact_of digest = option_map (λ d. Fact (DigestIs d)) digest

same_digest : (one other : Option Digest) → fact_of one ≡ fact_of other → option_map DigestIs one ≡ option_map DigestIs other
same_digest None None e = refl
same_digest (Some d) (Some f) e = cc e
same_digest None (Some f) e = cc e
same_digest (Some d) None e = cc e

pub digest_named : (s : Source) (digest : Option Digest) → fact_of digest ≡ digest_fact s → option_map DigestIs digest ≡ digest_atom s
digest_named (source.Digest hash) digest e = same_digest digest (digest_of hash) e
digest_named source.Star digest e = same_digest digest None e
digest_named (source.SchemeOnly scheme) digest e = same_digest digest None e
digest_named (source.Hosted scheme host port path) digest e = same_digest digest None e
digest_named (source.Word word) digest e = same_digest digest None e
digest_named (source.Nonce value) digest e = same_digest digest None e
digest_named (source.Other token) digest e = same_digest digest None e
