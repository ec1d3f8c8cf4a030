use Rattle.transcript_check.proofs.Saks.{entered, enters-kept, enters-life}
use Rattle.transcript_check.proofs.epochs.Epochs.take.Goals as goal

pub returns : goal.returns
returns c =
    let step = c.enter.ensures in record {
      taken = λ facts are. (entered facts c.args.fact.now c.args.self.now c.enter.new.self c.enter.result are step).taken;
      refused = λ facts are. (entered facts c.args.fact.now c.args.self.now c.enter.new.self c.enter.result are step).refused;
      kept = enters-kept c.args.fact.now c.args.self.now c.enter.new.self c.enter.result step;
      life = λ s mi is. enters-life c.args.fact.now c.args.self.now c.enter.new.self c.enter.result s mi step is;
    }
