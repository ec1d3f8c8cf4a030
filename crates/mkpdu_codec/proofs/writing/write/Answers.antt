use Rattle.mkpdu_codec.proofs.WrittenSpelled.{written_spells}
use Rattle.mkpdu_codec.proofs.writing.write.Goals as goal

pub returns-in_err-reserve-clause-spells : goal.returns-in_err-reserve-clause-spells
returns-in_err-reserve-clause-spells c = λ check sixteen. written_spells c.args.announcement.now check c.requires c.is_of_its_types.ensures sixteen

pub returns-clause-spells : goal.returns-clause-spells
returns-clause-spells c = λ check sixteen. written_spells c.args.announcement.now check c.requires c.is_of_its_types.ensures sixteen
