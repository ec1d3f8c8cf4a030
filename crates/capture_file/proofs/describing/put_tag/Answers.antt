use Rattle.capture_file.proofs.describing.put_tag.Goals as goal

pub returns-clause-ok : goal.returns-clause-ok
returns-clause-ok c = rw (c.from.ensures, c.an_word.ensures, c.flag_word.ensures) at c.put_words.ensures.ok
