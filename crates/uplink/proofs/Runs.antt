-- ISOLATION AND CONSERVATION over whole histories.
use mathlib.Core.Path.{◌≡◌, sym, refl, ap, ◌∙◌}
use mathlib.Core.Bool.{false}
use mathlib.Core.List.{List, [], ◌∷◌}
use Prim.Native.Nat.{ℕ, ◌*◌, ◌≤◌, ◌<◌}
use native.Mathlib.Nat.{add-mul, zero-mul, one-mul, zero-add, add_comm}
use native.Mathlib.Decide.{dec_lt, ℕ_discrete}
use native.Mathlib.Omega.{arith}
use lib.IntN.{ℤ, pos, ◌+ℤ◌, +ℤ_assoc, +ℤ_comm, +ℤ_idr}
use borrow.Author.Tests.{le-leb, eq-eqb, ne_eqb}
use Rattle.types.specs.declared.ErrorCode.TheVariants as error
use Rattle.uplink.specs.Uplink.{Offered, most_viewers, most_uplink, share_of, credited, credit_of, mark_of, offer_ok, offer_answer}
use Rattle.uplink.specs.Histories.{Event, tick, offer, Sharer, sharer_after, run_sharer, decisions, own, ticks, bytes_sent, sent_to, excess, cut_off, decide_alone, credited_alone, alone}
use Rattle.uplink.specs.Claims.{Isolation, Alone, Conservation, StaysInRange, TicksTaken}
use Rattle.uplink.proofs.Credits.{tick_balance, offer_balance}
use Rattle.uplink.proofs.Columns.{offer_viewers, offer_viewer, offer_refused, viewers_out, tick_taken}
use Rattle.uplink.proofs.Steps.{InRange, fresh_range, tick_credit, tick_range, tick_in_range, other_credit, other_mark, own_credit, own_mark, own_decision, offer_range, run_range}
use Rattle.std.specs.Prelude.{Err}

-- a property of the events to come, offer by offer: those to v, and those to others
by_viewer : (v : ℕ) (P : ℕ → Type 0) → P v → ((w : ℕ) → (w ≡ v → ⊥) → P w) → (w : ℕ) → P w
by_viewer v P mine others w = go (ℕ_discrete w v)
  where
    go : Dec (w ≡ v) → P w
    go (yes e) = rw e mine
    go (no d) = others w d

-- A VIEWER OF n decides as if it were alone
module _ (n u v : ℕ) (l : v < n) (most : n ≤ most_viewers) where
  abbrev AsAlone : List Event → Sharer → Type 0
  AsAlone es s = decisions v n u es s ≡ alone n u (own v es) (credit_of s.credits v) (mark_of s.waiting v)

  as_alone_lem : (es : List Event) (s : Sharer) → InRange n s → AsAlone es s
  unfolding sharer_after
  as_alone_lem [] s r = refl
  as_alone_lem (tick ∷ es) s r = as_alone_lem es (sharer_after n u tick s) (tick_range n u s r) ∙ rw (tick_credit n u s r (omega arith) most v l)
  as_alone_lem (offer w hint size ∷ es) s r =
      by_viewer v (λ x. AsAlone es (sharer_after n u (offer x hint size) s) → AsAlone (offer x hint size ∷ es) s)
      (λ ih.
      rw (eq-eqb v v refl, own_decision n u v hint size s l r most)
      (ap (λ (ds : List Offered). decide_alone hint size (credit_of s.credits v) (mark_of s.waiting v) ∷ ds)
      (ih ∙ rw (own_credit n u v hint size s l r, own_mark n u v hint size s l r, own_decision n u v hint size s l r most))))
      (λ w d ih. rw (ne_eqb w v d) (ih ∙ rw (other_credit n u w hint size s v (λ e. d (sym e)), other_mark n u w hint size s v (λ e. d (sym e)))))
      w
      (as_alone_lem es (sharer_after n u (offer w hint size) s) (offer_range n u w hint size s r))

pub as_if_alone : Alone
unfolding Alone
as_if_alone n u v es s l most f = as_alone_lem n u v l most es s (fresh_range n s f) ∙ rw (f.credit v l, f.mark v l)

-- ANY OTHER VIEWER is refused every frame
abbrev all_refused : List Event → List Offered
all_refused [] = []
all_refused (tick ∷ es) = all_refused es
all_refused (offer w hint size ∷ es) = Err error.OutOfRange ∷ all_refused es

module _ (n u v : ℕ) (out : (hint : ℕ) (s : Sharer) → offer_ok n v hint s.credits s.waiting ≡ false) where
  refused : (es : List Event) (s : Sharer) → decisions v n u es s ≡ all_refused (own v es)
  refused [] s = refl
  refused (tick ∷ es) s = refused es (sharer_after n u tick s)
  refused (offer w hint size ∷ es) s =
      by_viewer v (λ x. decisions v n u es (sharer_after n u (offer x hint size) s) ≡ all_refused (own v es) → decisions v n u (offer x hint size ∷ es) s ≡ all_refused (own v (offer x hint size ∷ es)))
      (λ ih. rw (eq-eqb v v refl, ← (offer_refused n v hint size s.credits s.waiting (out hint s)).0) (ap (λ (ds : List Offered). Err error.OutOfRange ∷ ds) ih))
      (λ w d ih. rw (ne_eqb w v d) ih)
      w
      (refused es (sharer_after n u (offer w hint size) s))

pub isolation : Isolation
unfolding Isolation Alone
isolation n u v es es' s s' f f' e = go (dec_lt v n) (dec_lt most_viewers n)
  where
    same : ((hint : ℕ) (t : Sharer) → offer_ok n v hint t.credits t.waiting ≡ false) → decisions v n u es s ≡ decisions v n u es' s'
    same out = refused n u v out es s ∙ rw e (sym (refused n u v out es' s'))

    go : Dec (v < n) → Dec (most_viewers < n) → decisions v n u es s ≡ decisions v n u es' s'
    go (no k) b = same (λ hint t. offer_viewer n v hint 0 t.credits t.waiting (omega arith))
    go (yes l) (yes k) = same (λ hint t. offer_viewers n v hint 0 t.credits t.waiting (viewers_out n _ k))
    go (yes l) (no k) = as_if_alone n u v es s l (omega arith) f ∙ rw e (sym (as_if_alone n u v es' s' l (omega arith) f'))

-- IN RANGE
pub stays_in_range_lem : StaysInRange
unfolding StaysInRange
stays_in_range_lem n u v es s l f = (run_range n u es s (fresh_range n s f)).ok v l

pub ticks_taken_lem : TicksTaken
unfolding TicksTaken
ticks_taken_lem n u es s some most l f =
    sym (tick_taken n u _ (tick_in_range n u (run_sharer n u es s) (run_range n u es s (fresh_range n s f)) some most l)).0

-- sums of integers
regroup_tick : (t share c c' cut out more : ℤ) → share +ℤ c ≡ c' +ℤ cut → t +ℤ c' ≡ out +ℤ more → (t +ℤ share) +ℤ c ≡ out +ℤ (cut +ℤ more)
regroup_tick t share c c' cut out more a b =
    +ℤ_assoc t share c
    ∙ ap (λ (x : ℤ). t +ℤ x) a
    ∙ sym (+ℤ_assoc t c' cut)
    ∙ ap (λ (x : ℤ). x +ℤ cut) b
    ∙ +ℤ_assoc out more cut
    ∙ ap (λ (x : ℤ). out +ℤ x) (+ℤ_comm more cut)

regroup_offer : (t c c' sent end cut size : ℤ) → c' +ℤ size ≡ c → t +ℤ c' ≡ sent +ℤ end +ℤ cut → t +ℤ c ≡ (size +ℤ sent) +ℤ end +ℤ cut
regroup_offer t c c' sent end cut size a b =
    ap (λ (x : ℤ). t +ℤ x) (sym a)
    ∙ sym (+ℤ_assoc t c' size)
    ∙ ap (λ (x : ℤ). x +ℤ size) b
    ∙ +ℤ_comm (sent +ℤ end +ℤ cut) size
    ∙ sym (+ℤ_assoc size (sent +ℤ end) cut)
    ∙ ap (λ (x : ℤ). x +ℤ cut) (sym (+ℤ_assoc size sent end))

-- CONSERVATION from any columns in range: the shares come on top of the credit at the start
module _ (n u v : ℕ) (l : v < n) (most : n ≤ most_viewers) (bounded : u ≤ most_uplink) where
  abbrev credit : Sharer → ℤ
  credit s = credit_of s.credits v

  abbrev Conserved : List Event → Sharer → Type 0
  Conserved es s = pos (ticks es * share_of u n) +ℤ credit s ≡ pos (sent_to v n u es s) +ℤ credit (run_sharer n u es s) +ℤ pos (cut_off v n u es s)

  ticked : (s : Sharer) → InRange n s → credit (sharer_after n u tick s) ≡ credited (share_of u n) (credit s)
  unfolding sharer_after credited_alone
  ticked s r = tick_credit n u s r (omega arith) most v l ∙ rw (le-leb u most_uplink bounded)

  own_conserved : (hint size : ℕ) (es : List Event) (s : Sharer) → InRange n s → Conserved es (sharer_after n u (offer v hint size) s) → Conserved (offer v hint size ∷ es) s
  own_conserved hint size es s r ih =
      let next : Sharer = sharer_after n u (offer v hint size) s in
      let o : Offered = offer_answer n v hint size s.credits s.waiting in
      let a : credit next +ℤ pos (bytes_sent o size) ≡ credit s = rw (own_credit n u v hint size s l r) (offer_balance o size (credit s)) in
      rw (eq-eqb v v refl)
      (regroup_offer (pos (ticks es * share_of u n)) (credit s) (credit next) (pos (sent_to v n u es next)) (credit (run_sharer n u es next)) (pos (cut_off v n u es next)) (pos (bytes_sent o size)) a ih)

  conserved : (es : List Event) (s : Sharer) → InRange n s → Conserved es s
  conserved [] s r = rw (zero-mul (share_of u n)) (sym (+ℤ_idr (pos 0 +ℤ credit s)))
  conserved (tick ∷ es) s r =
      let next : Sharer = sharer_after n u tick s in
      rw (add-mul 1 (ticks es) (share_of u n), add_comm (1 * share_of u n) (ticks es * share_of u n), one-mul (share_of u n))
      (regroup_tick (pos (ticks es * share_of u n)) (pos (share_of u n)) (credit s) (credit next) (pos (excess (share_of u n) (credit s)))
      (pos (sent_to v n u es next) +ℤ credit (run_sharer n u es next)) (pos (cut_off v n u es next))
      (tick_balance (share_of u n) (credit s) ∙ rw (ticked s r)) (conserved es next (tick_range n u s r)))
  conserved (offer w hint size ∷ es) s r =
      by_viewer v (λ x. Conserved es (sharer_after n u (offer x hint size) s) → Conserved (offer x hint size ∷ es) s)
      (own_conserved hint size es s r)
      (λ w d ih. rw (ne_eqb w v d, zero-add (sent_to v n u es (sharer_after n u (offer w hint size) s)), ← other_credit n u w hint size s v (λ e. d (sym e))) ih)
      w
      (conserved es (sharer_after n u (offer w hint size) s) (offer_range n u w hint size s r))

pub conservation : Conservation
unfolding Conservation
conservation n u v es s l most bounded f =
    sym (+ℤ_idr (pos (ticks es * share_of u n)))
    ∙ ap (λ (c : ℤ). pos (ticks es * share_of u n) +ℤ c) (sym (f.credit v l))
    ∙ conserved n u v l most bounded es s (fresh_range n s f)
