-- How the program ends where the words order nothing.
use Rattle.std.proofs.Common.{◌≡◌, inl, inr, refl}
use Rattle.std.specs.Prelude.{◌⊎◌, List}
use Rattle.clap.specs.Words.{Text}
use Rattle.rollover_program.specs.declared.status.Status.{Status}
use Rattle.rollover_program.specs.declared.status.Status.TheVariants.{Usage, Memory}
use Rattle.rollover_program.specs.declared.words.Order.{Order}
use Rattle.rollover_program.specs.declared.words.Refusal.{Refusal}
use Rattle.rollover_program.specs.declared.words.Refusal.TheVariants as refusals
use Rattle.rollover_program.specs.Words.{IsNumbered, IsUsage, Orders, words_of}
use Rattle.rollover_program.specs.inside.Answering.{status_of_refusal}
use Rattle.rollover_program.proofs.Ordered.{plain_words}

-- the plain words for an order
pub plain_orders : (words : List Text) (order : Order) → IsNumbered order → words ≡ words_of order
    → Orders words order
plain_orders words order numbered is = rw is (plain_words order numbered)

-- two statuses
pub either : (f : Refusal) (s : Status) → s ≡ status_of_refusal f → (s ≡ Usage)
    ⊎ (s ≡ Memory)
either refusals.Usage s e = inl e
either refusals.Memory s e = inr e

pub usage_only : (f : Refusal) → status_of_refusal f ≡ Usage → f ≡ refusals.Usage
usage_only refusals.Usage e = refl
usage_only refusals.Memory e = absurd cc

pub neither : (f : Refusal) (s : Status) (P : Type 0) → (Usage ≡ s → ⊥) → (Memory ≡ s → ⊥)
    → status_of_refusal f ≡ s → P
neither refusals.Usage s P usage memory e = absurd (usage e)
neither refusals.Memory s P usage memory e = absurd (memory e)

-- words that are a command order nothing for want of memory alone
pub memory : (words : List Text) (f : Refusal) → (f ≡ refusals.Usage → IsUsage words) → (s : Status) (order : Order)
    → s ≡ status_of_refusal f → Orders words order → s ≡ Memory
memory words refusals.Usage usage s order e asked = absurd (usage refl asked.0)
memory words refusals.Memory usage s order e asked = e
