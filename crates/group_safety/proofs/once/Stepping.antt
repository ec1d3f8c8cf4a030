-- A run stays known after what one station does.
use Rattle.std.proofs.Common.{◌≡◌, ◌≢◌, ◌<◌, sym, ap, ◌∙◌, subst, inl, inr, ◌⊎◌, ℕ, List, []}
use Rattle.std.proofs.Common.{◌∷◌, ◌++◌, map, Some, arith}
use Rattle.std.proofs.lemmas.List.{append-nil}
use Rattle.lan_base.specs.declared.frame.UserFrame.{UserFrame}
use Rattle.aes_block.specs.Secrets.{secret_octets}
use Rattle.lan_core.specs.declared.settings.Settings.{Settings}
use Rattle.lan_core.specs.Run.{Run, Happening, started, stations}
use Rattle.lan_core.specs.Ledgers.{births, Install, Frame, air, Claim, claims}
use Rattle.lan_core.specs.Lives.{Life, life}
use Rattle.lan_core.specs.Claims.{next, claimed, claimed_by}
use Rattle.lan_core.specs.Fresh.{drawn_saks}
use Rattle.lan_core.proofs.Public.{never-falls}
use Rattle.group_safety.specs.Once.{makes}
use Rattle.group_safety.proofs.Members.{In, in-either, in-right}
use Rattle.group_safety.proofs.once.Ledgers.{Said, Deeds, Book, Change, book, AreAllowed}
use Rattle.group_safety.proofs.once.Histories.{deeds}
use Rattle.group_safety.proofs.once.Rules.{said_by}
use Rattle.group_safety.proofs.once.Origins.{said-later}
use Rattle.group_safety.proofs.once.Carried.{IsCarried, carried-more}
use Rattle.group_safety.proofs.once.Gists.{IsGist}
use Rattle.group_safety.proofs.once.Nexts.{births-next, installs-next, air-next, claims-next}
use Rattle.group_safety.proofs.once.Nexts.{stations-next, claimed-next}
use Rattle.group_safety.proofs.once.Books.{Follows}
use Rattle.group_safety.proofs.once.Living.{group_kek, IsLiving, IsTold, IsPlain, IsKnown}
use Rattle.group_safety.proofs.once.Living.{living-later}

-- one after the other
pub follows-on : (b c d : Book) (s : ℕ) (l n : Deeds) (is ms : List Install) (ss : List Said)
    → Follows b c s l is ms [] → Follows c d s n [] [] ss → Follows b d s n is ms ss
follows-on b c d s l n is ms ss f g = record {
  births = g.births ∙ f.births;
  spoken = g.spoken ∙ ap (λ w. ss ++ w) f.spoken;
  installs = g.installs ∙ f.installs;
  makes = g.makes ∙ f.makes;
  claims = g.claims ∙ f.claims;
  here = g.here;
  there = λ t other. g.there t other ∙ f.there t other;
}

-- what is below the next number stays so
pub next-more : (settings : Settings) (x : Happening) (r : Run) (c : Claim)
    → c.pn < next settings c.station c.epoch r → c.pn < next settings c.station c.epoch (x ∷ r)
next-more settings x r c less =
    let more = never-falls settings c.station c.epoch (x ∷ []) r in omega (arith, less, more)

-- nothing new of stations, births, draws and waiting claims
pub plain-same : (settings : Settings) (users : List UserFrame) (x : Happening) (r : Run)
    → started x.event ≡ [] → births (x ∷ r) ≡ births r → claims (x ∷ r) ≡ claims r
    → claimed_by settings r x.event ≡ []
    → map (λ i. secret_octets i.sak) (makes (x ∷ r)) ≡ drawn_saks (x ∷ r)
    → IsPlain settings users r → IsPlain settings users (x ∷ r)
plain-same settings users x r none same no_claims unclaimed drawn v =
    let stays : stations (x ∷ r) ≡ stations r = stations-next x r ∙ ap (λ w. stations r ++ w) none
    ∙ append-nil (stations r) in
    let waits : claimed settings (x ∷ r) ≡ claimed settings r = claimed-next settings x r
    ∙ ap (λ w. claimed settings r ++ w) unclaimed ∙ append-nil (claimed settings r) in
    record {
      typed = λ p i. v.typed p (subst (λ w. In p w) stays i);
      apart = rw stays v.apart;
      placed = λ b i. rw stays (v.placed b (subst (λ w. In b w) same i));
      drawn = drawn;
      sendable = λ w i. v.sendable w (subst (λ ws. In w ws) waits i);
      below = λ c i. next-more settings x r c (v.below c (subst (λ cs. In c cs) no_claims i));
    }

-- how the lives of a run come of those before: one station's is replaced
abbrev pub IsLifeOf : Settings → Happening → Run → ℕ → Life → Type 0
IsLifeOf settings x r s l =
    (t : ℕ) (n : Life) → life settings t (x ∷ r) ≡ Some n
    → ((s ≡ t) × (l ≡ n)) ⊎ ((s ≢ t) × (life settings t r ≡ Some n))

pub turn-kept : (settings : Settings) (users : List UserFrame) (x : Happening) (r : Run)
    (k : IsKnown settings users r) (s : ℕ) (l : Life) {is ms : List Install} {fs : List Frame}
    {ss : List Said}
    (cs : List Change) → AreAllowed cs → IsGist x.facts [] is fs []
    → Follows (book k.changes) (book cs) s (deeds l) is ms ss → makes (x ∷ r) ≡ ms ++ makes r
    → ((f : Frame) → In f fs → IsCarried (IsTold settings (book cs) (x ∷ r)) f.octets)
    → IsLifeOf settings x r s l → IsLiving settings (x ∷ r) s l → IsPlain settings users (x ∷ r)
    → IsKnown settings users (x ∷ r)
turn-kept settings users x r k s l {is} {ms} {fs} {ss} cs allowed g f made carried lives living
    plain = record {
      changes = cs;
      allowed = allowed;
      shows = record {
        births = f.births ∙ k.shows.births ∙ sym (births-next x r g);
        installs = f.installs ∙ ap (λ w. is ++ w) k.shows.installs ∙ sym (installs-next x r g);
        makes = f.makes ∙ ap (λ w. ms ++ w) k.shows.makes ∙ sym made;
        claims = f.claims ∙ k.shows.claims ∙ sym (claims-next x r g);
        air = λ y i. elim (in-either fs (air r) y (subst (λ w. In y w) (air-next x r g) i)) [
          | inl new ↦ carried y new
          | inr old ↦
              carried-more (IsTold settings (book k.changes) r) (IsTold settings (book cs) (x ∷ r))
              y.octets
              (λ a told. record {
                said = subst (λ w. In (said_by (group_kek settings) a) w) (sym f.spoken)
                    (in-right ss (book k.changes).spoken (said_by (group_kek settings) a)
                    told.said);
                origin = said-later settings x r a told.origin;
              })
              (k.shows.air y old)
        ];
        lives = λ t n e. elim (lives t n e) [
          | inl here ↦ subst (λ w. (book cs).life w ≡ Some (deeds n)) here.0
              (f.here ∙ ap (λ w. Some (deeds w)) here.1)
          | inr there ↦ f.there t there.0 ∙ k.shows.lives t n there.1
        ];
      };
      living = λ t n e. elim (lives t n e) [
        | inl here ↦ subst (λ w. IsLiving settings (x ∷ r) w n) here.0
            (subst (IsLiving settings (x ∷ r) s) here.1 living)
        | inr there ↦ living-later settings x r t n g (k.living t n there.1)
      ];
      plain = plain;
    }
