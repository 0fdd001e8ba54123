use Rattle.csp_source.proofs.SpellingLaws.{reads_back}
use Rattle.csp_source.proofs.spelling.source_text.Goals as goal

pub returns-clause-reads_back : goal.returns-clause-reads_back
returns-clause-reads_back c =
    reads_back c.args.source.now c.from_string.result _ _ c.requires c.from_string.ensures c.in_ok-push_source.ensures c.new-text.ensures.bytes
