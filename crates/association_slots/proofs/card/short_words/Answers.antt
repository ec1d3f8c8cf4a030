use Rattle.std.proofs.Common.{Bool, true, false, ap, ◌∙◌, sym}
use Rattle.aes_block.specs.declared.secret.Secret.TheVariants.{S128}
use Rattle.association_slots.specs.Cards.{card_in}
use Rattle.association_slots.specs.declared.card.Card.{Card}
use Rattle.association_slots.proofs.CardWords.{short_back}
use Rattle.association_slots.proofs.card.short_words.Goals as goal
use Rattle.association_slots.proofs.card.short_words.Goals.{then-conf, else-conf}

pub returns-clause-back : goal.returns-clause-back
returns-clause-back c = elim c.if-conf.branch [
  | then-conf w ↦ (λ i. card_in (c.word_at.ensures i) (c.word_at-2.ensures i) 0 0 (w.conf-is i)) ∙ (short_back c.args.k.now true c.told-k c.fits-k ∙ ap (λ (b : Bool). let card : Card = record { sak = S128 c.args.k.now; conf = b } in card) (sym w.if-conf.true))
  | else-conf w ↦ (λ i. card_in (c.word_at.ensures i) (c.word_at-2.ensures i) 0 0 (w.conf-is i)) ∙ (short_back c.args.k.now false c.told-k c.fits-k ∙ ap (λ (b : Bool). let card : Card = record { sak = S128 c.args.k.now; conf = b } in card) (sym w.if-conf.false))
]
