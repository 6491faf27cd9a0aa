use Rattle.std.proofs.Common.{refl, arith}
use Rattle.flow_machine.proofs.Reserving.{sound_roomier, still_reserved}
use Rattle.flow_machine.proofs.machine.Machine.reserve.Goals as goal

pub invariant_of-self : goal.invariant_of-self
invariant_of-self c =
    let m = c.self.inside in
    sound_roomier m.code.now m.choices.now m.sum m.taken m.ended m.reserved m.reserved m.whole m.control _ m.run _ (refl)
    (λ x. rw c.reserve.ensures.cells refl) (rw c.reserve.ensures.cells refl) (λ q. still_reserved m.code.now m.control _ (omega arith, omega arith, omega arith) (c.self.invariant.room q)) c.self.invariant

pub invariant_of-self-in_err-reserve_all : goal.invariant_of-self-in_err-reserve_all
invariant_of-self-in_err-reserve_all c =
    let m = c.self.inside in
    sound_roomier m.code.now m.choices.now m.sum m.taken m.ended m.reserved m.reserved m.whole m.control _ m.run _ (refl)
    (λ x. rw (c.reserve.ensures.cells, c.reserve_all.ensures.items) refl) (rw (c.reserve.ensures.cells, c.reserve_all.ensures.items) refl) (λ q. still_reserved m.code.now m.control _ (omega arith, omega arith, omega arith) (c.self.invariant.room q)) c.self.invariant

pub invariant_of-self-in_err-reserve_all-2 : goal.invariant_of-self-in_err-reserve_all-2
invariant_of-self-in_err-reserve_all-2 c =
    let m = c.self.inside in
    sound_roomier m.code.now m.choices.now m.sum m.taken m.ended m.reserved m.reserved m.whole m.control _ m.run _ (rw c.reserve_all-2.ensures.items refl)
    (λ x. rw (c.reserve.ensures.cells, c.reserve_all.ensures.items) refl) (rw (c.reserve.ensures.cells, c.reserve_all.ensures.items) refl) (λ q. still_reserved m.code.now m.control _ (omega arith, omega arith, c.reserve_all-2.ensures.capacity) (c.self.invariant.room q)) c.self.invariant

pub invariant_of-self-in_err-reserve_all-3 : goal.invariant_of-self-in_err-reserve_all-3
invariant_of-self-in_err-reserve_all-3 c =
    let m = c.self.inside in
    sound_roomier m.code.now m.choices.now m.sum m.taken m.ended m.reserved m.reserved m.whole m.control _ m.run _ (rw (c.reserve_all-2.ensures.items, c.reserve_all-3.ensures.items) refl)
    (λ x. rw (c.reserve.ensures.cells, c.reserve_all.ensures.items) refl) (rw (c.reserve.ensures.cells, c.reserve_all.ensures.items) refl) (λ q. still_reserved m.code.now m.control _ (omega arith, c.reserve_all-3.ensures.capacity, c.reserve_all-2.ensures.capacity) (c.self.invariant.room q)) c.self.invariant

pub invariant_of-self-in_err-reserve_all-4 : goal.invariant_of-self-in_err-reserve_all-4
invariant_of-self-in_err-reserve_all-4 c =
    let m = c.self.inside in
    sound_roomier m.code.now m.choices.now m.sum m.taken m.ended m.reserved m.reserved m.whole m.control _ m.run _ (rw (c.reserve_all-2.ensures.items, c.reserve_all-3.ensures.items, c.reserve_all-4.ensures.items) refl)
    (λ x. rw (c.reserve.ensures.cells, c.reserve_all.ensures.items) refl) (rw (c.reserve.ensures.cells, c.reserve_all.ensures.items) refl) (λ q. still_reserved m.code.now m.control _ (c.reserve_all-4.ensures.capacity, c.reserve_all-3.ensures.capacity, c.reserve_all-2.ensures.capacity) (c.self.invariant.room q)) c.self.invariant

pub invariant_of-self-2 : goal.invariant_of-self-2
invariant_of-self-2 c =
    let m = c.self.inside in
    sound_roomier m.code.now m.choices.now m.sum m.taken m.ended m.reserved _ m.whole m.control _ m.run _ (rw (c.reserve_all-2.ensures.items, c.reserve_all-3.ensures.items, c.reserve_all-4.ensures.items) refl)
    (λ x. rw (c.reserve.ensures.cells, c.reserve_all.ensures.items) refl) (rw (c.reserve.ensures.cells, c.reserve_all.ensures.items) refl)
    (λ q. record {
      stack = omega (arith, c.in_ok-reserve_all-4.ensures.ok, c.saturating_mul.ensures, c.len-3.ensures, c.reserve_all-4.new.values.small);
      scopes = omega (arith, c.in_ok-reserve_all-3.ensures.ok, c.len-2.ensures);
      frames = omega (arith, c.in_ok-reserve_all-2.ensures.ok, c.len.ensures);
    })
    c.self.invariant
