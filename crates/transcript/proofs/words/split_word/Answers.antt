use Rattle.transcript.proofs.Splitting.{split_at}
use Rattle.transcript.proofs.words.split_word.Goals as goal

pub returns : goal.returns
returns c = split_at c.args.text.now _ _ _ c.word_length.ensures.count c.split_at.ensures.front c.split_at.ensures.back
