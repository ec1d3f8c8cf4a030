-- What is remembered of a step that told nothing and changed nothing: the same step again does neither.
use Rattle.std.proofs.Common.{◌≡◌, ◌∙◌, List, [], ap₂, sym, subst, Option, Some, None}
use Rattle.std.specs.Prelude.{IsSomeAnd}
use Rattle.lan_base.specs.declared.address.Sci.{Sci}
use Rattle.receive_channels.specs.declared.channel.ChannelKey.{ChannelKey}
use Rattle.receive_channels.specs.declared.channel.Channel.{Channel}
use Rattle.receive_channels.specs.declared.changes.ChannelChanges.{ChannelChanges}
use Rattle.receive_channels.specs.declared.still.StillStep.{StillStep}
use Rattle.receive_channels.specs.Channels.{Step, ChannelSet, IsStill, IsTold, after}
use Rattle.receive_channels.specs.inside.Still.{IsStillAt}

abbrev pub given : List Sci → List ChannelKey → Step
given scis keys = record { scis = scis; keys = keys }

abbrev pub set_of : List Channel → List Sci → ChannelSet
set_of channels waiting = record { channels = channels; waiting = waiting }

-- where a step told nothing, and all is as it was, it is still
pub told-nothing : (step : Step) (old : ChannelSet) (told : ChannelChanges) → IsTold step old told
    → old ≡ after step old → told.opened.items ≡ [] → told.receives.items ≡ [] → told.removed.items ≡ []
    → IsStill step old
told-nothing step old told is same opened receives removed = record {
  opens = sym is.0 ∙ opened;
  receives = sym is.1 ∙ receives;
  removes = sym is.2 ∙ removed;
  changes = sym same;
}

same-step : (scis : List Sci) (keys : List ChannelKey) (step : Step) → scis ≡ step.scis → keys ≡ step.keys
    → given scis keys ≡ step
same-step scis keys step e f = ap₂ given e f

same-set : (channels : List Channel) (waiting : List Sci) (old : ChannelSet) → channels ≡ old.channels
    → waiting ≡ old.waiting → set_of channels waiting ≡ old
same-set channels waiting old e f = ap₂ set_of e f

pub still-now : (step : Step) (old : ChannelSet) (told : ChannelChanges) (channels : List Channel) (waiting : List Sci)
    (scis : List Sci) (keys : List ChannelKey) → IsTold step old told → set_of channels waiting ≡ after step old
    → told.opened.items ≡ [] → told.receives.items ≡ [] → told.removed.items ≡ []
    → channels ≡ old.channels → waiting ≡ old.waiting → scis ≡ step.scis → keys ≡ step.keys
    → IsStill (given scis keys) (set_of channels waiting)
still-now step old told channels waiting scis keys is made opened receives removed e f g h =
    let here = same-set channels waiting old e f in
    subst (λ (s : Step). IsStill s (set_of channels waiting)) (sym (same-step scis keys step g h))
    (subst (IsStill step) (sym here) (told-nothing step old told is (sym here ∙ made) opened receives removed))

-- what is remembered and given again is still
pub given-again : (still : Option StillStep) (s : ChannelSet) (scis : List Sci) (keys : List ChannelKey)
    → IsStillAt still s
    → IsSomeAnd still (λ (one : StillStep). (scis ≡ one.scis.items) × (keys ≡ one.keys.items))
    → IsStill (given scis keys) s
given-again None s scis keys is same = absurd same
given-again (Some one) s scis keys is same =
    subst (λ (step : Step). IsStill step s)
    (sym (same-step scis keys (given one.scis.items one.keys.items) same.0 same.1)) is

-- a still step tells nothing
pub nothing-told : (step : Step) (s : ChannelSet) (told : ChannelChanges) → IsStill step s → told.opened.items ≡ []
    → told.receives.items ≡ [] → told.removed.items ≡ [] → IsTold step s told
nothing-told step s told still opened receives removed =
    (opened ∙ sym still.opens, receives ∙ sym still.receives, removed ∙ sym still.removes)
