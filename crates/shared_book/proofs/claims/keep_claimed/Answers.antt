use Rattle.std.proofs.Common.{rules}
use Rattle.std.proofs.lemmas.Fn.{filter_same}
use Rattle.shared_book.specs.Away.{is_thread_among}
use Rattle.shared_book.proofs.claims.keep_claimed.Goals as goal

pub returns : goal.returns
returns c = filter_same _ (is_thread_among c.args.claimed.now.keys) _ (λ x b f' k. search rules) _ _ c.retain.ensures.filtered
