-- What `==` says of SCIs, keys and channels.
use Rattle.std.proofs.Common.{◌≡◌, ℕ, true, nat_eq, ◌&&◌, Decides, ap, ap₂, subst}
use Rattle.std.proofs.lemmas.Bool.{and_from, and_parts, eq-eqb, eqb-true}
use denote.Enum.Bare.{sameb, same_true, true_same}
use Rattle.lan_base.specs.contracts.association_number.AssociationNumber.{the_type}
use Rattle.lan_base.specs.declared.address.Sci.{Sci}
use Rattle.lan_base.specs.declared.association_number.AssociationNumber.{AssociationNumber}
use Rattle.lan_base.specs.Identifiers.{same_sci}
use Rattle.receive_channels.specs.declared.channel.ChannelKey.{ChannelKey}
use Rattle.receive_channels.specs.declared.channel.Channel.{Channel}
use Rattle.receive_channels.proofs.Placing.{same-sci, sci-same}

pub sci-decides : (a b : Sci) → Decides (same_sci a b) (a ≡ b)
sci-decides a b = (same-sci a b, λ e. subst (λ (z : Sci). same_sci a z ≡ true) e (sci-same a))

channel-equal : (a b : Channel) → a.sci ≡ b.sci → a.newest ≡ b.newest → a ≡ b
channel-equal a b e f =
    ap₂ (λ (x : Sci) (n : ℕ). let c : Channel = record { sci = x; newest = n } in c) e f

pub channel-decides : (a b : Channel) → Decides (same_sci a.sci b.sci && nat_eq a.newest b.newest) (a ≡ b)
channel-decides a b = (
  λ t.
      let both = and_parts (same_sci a.sci b.sci) (nat_eq a.newest b.newest) t in
      channel-equal a b (same-sci a.sci b.sci both.0) (eqb-true a.newest b.newest both.1),
  λ e.
      and_from (same_sci a.sci b.sci) (nat_eq a.newest b.newest)
      ((sci-decides a.sci b.sci).1 (ap (λ (c : Channel). c.sci) e))
      (eq-eqb a.newest b.newest (ap (λ (c : Channel). c.newest) e)),
)

key-equal : (a b : ChannelKey) → a.epoch ≡ b.epoch → a.an ≡ b.an → a ≡ b
key-equal a b e f =
    ap₂ (λ (x : ℕ) (n : AssociationNumber). let k : ChannelKey = record { epoch = x; an = n } in k) e f

pub key-decides : (a b : ChannelKey) → Decides (nat_eq a.epoch b.epoch && sameb the_type a.an b.an) (a ≡ b)
key-decides a b = (
  λ t.
      let both = and_parts (nat_eq a.epoch b.epoch) (sameb the_type a.an b.an) t in
      key-equal a b (eqb-true a.epoch b.epoch both.0) (same_true the_type tt a.an b.an both.1),
  λ e.
      and_from (nat_eq a.epoch b.epoch) (sameb the_type a.an b.an)
      (eq-eqb a.epoch b.epoch (ap (λ (k : ChannelKey). k.epoch) e))
      (true_same the_type a.an b.an (ap (λ (k : ChannelKey). k.an) e)),
)
