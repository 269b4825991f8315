-- `writer_calls::turn_writers` meets its contract: one law a kind of call.
use mathlib.Core.List.{[]}
use mathlib.Core.Path.{refl}
use Rattle.model.specs.declared.TrackerCall.TheVariants.{Matched, Unmatched, LostWithParticipant, WriterAsserted, ParticipantAsserted, TakeStatus, Acknowledge}
use Rattle.writer_counts.specs.WriterCalls.{held_by}
use Rattle.writer_counts.proofs.Holding.{good, few-alive, few-not-alive}
use Rattle.writer_calls.proofs.Sheets.{clocks_fine, acknowledges_fine}
use Rattle.writer_calls.proofs.Leaving.{turns_judged, expires-judged, takes_judged, keeps_judged, status_same, acknowledge-same}
use borrow.Author.Rules.{rules}
use Rattle.writer_calls.proofs.turn_writers.Goals as goal

pub matched-requires : goal.matched-requires
matched-requires c =
    (c.requires.0, clocks_fine c.args.c Matched c.in-Matched.is c.args.s (held_by c.args.head [] [] []) (c.requires.4 [] [] []))

pub leave-requires : goal.leave-requires
leave-requires c = c.requires.0

pub leave-requires-in-LostWithParticipant : goal.leave-requires-in-LostWithParticipant
leave-requires-in-LostWithParticipant c = c.requires.0

pub writer_asserted-requires : goal.writer_asserted-requires
writer_asserted-requires c = c.requires.0

pub participant_asserted-requires : goal.participant_asserted-requires
participant_asserted-requires c = c.requires.0

pub expire-requires : goal.expire-requires
expire-requires c = (c.requires.0, c.requires.1, c.requires.2)

pub acknowledge-requires : goal.acknowledge-requires
acknowledge-requires c =
    let g = good c.args.head c.args.writers.now (search rules) c.requires.0 in (
      c.requires.0.head_formed,
      few-alive c.args.head c.args.head.writer_count c.args.writers.now g.ready,
      few-not-alive c.args.head c.args.head.writer_count c.args.writers.now g.ready,
      λ pens writers lost. acknowledges_fine c.args.c Acknowledge c.in-Acknowledge.is c.args.s
          (held_by c.args.head pens writers lost) (c.requires.4 pens writers lost),
    )

pub returns-in-Matched : goal.returns-in-Matched
returns-in-Matched c =
    turns_judged c.args.c c.args.s c.args.head c.args.writers.now c.args.lost.now c.args.out.now c.requires.4
    c.matched.result Matched c.in-Matched.is (λ gone lost. refl) (λ st. refl) _ c.matched.ensures

pub returns-in-Unmatched : goal.returns-in-Unmatched
returns-in-Unmatched c =
    turns_judged c.args.c c.args.s c.args.head c.args.writers.now c.args.lost.now c.args.out.now c.requires.4
    c.leave.result Unmatched c.in-Unmatched.is (λ gone lost. refl) (λ st. refl) _
    c.leave.ensures

pub returns-in-LostWithParticipant : goal.returns-in-LostWithParticipant
returns-in-LostWithParticipant c =
    turns_judged c.args.c c.args.s c.args.head c.args.writers.now c.args.lost.now c.args.out.now c.requires.4
    c.leave-in-LostWithParticipant.result LostWithParticipant c.in-LostWithParticipant.is (λ gone lost. refl) (λ st. refl)
    _ c.leave-in-LostWithParticipant.ensures

pub returns-in-WriterAsserted : goal.returns-in-WriterAsserted
returns-in-WriterAsserted c =
    turns_judged c.args.c c.args.s c.args.head c.args.writers.now c.args.lost.now c.args.out.now c.requires.4
    c.writer_asserted.result WriterAsserted c.in-WriterAsserted.is (λ gone lost. refl) (λ st. refl) _
    c.writer_asserted.ensures

pub returns-in-ParticipantAsserted : goal.returns-in-ParticipantAsserted
returns-in-ParticipantAsserted c =
    turns_judged c.args.c c.args.s c.args.head c.args.writers.now c.args.lost.now c.args.out.now c.requires.4
    c.participant_asserted.result ParticipantAsserted c.in-ParticipantAsserted.is (λ gone lost. refl) (λ st. refl) _
    c.participant_asserted.ensures

pub returns-in-Expire : goal.returns-in-Expire
returns-in-Expire c =
    expires-judged c.args.c c.args.s c.args.head c.args.writers.now c.args.lost.now c.args.out.now c.requires.4
    c.expire.result c.in-Expire.is _ _ c.expire.ensures

pub returns-in-TakeLost : goal.returns-in-TakeLost
returns-in-TakeLost c =
    takes_judged c.args.c c.args.s c.args.head c.args.writers.now c.args.lost.now c.args.out.now c.requires.4
    c.take_lost.result c.requires.0.counted c.in-TakeLost.is _ _ c.take_lost.ensures

pub returns-in-TakeStatus : goal.returns-in-TakeStatus
returns-in-TakeStatus c =
    keeps_judged c.args.c c.args.s c.args.head c.args.writers.now c.args.lost.now c.args.out.now c.requires.4
    c.take_status.result c.requires.0.counted TakeStatus c.in-TakeStatus.is (status_same c.args.s) (λ gone lost. refl)
    (λ st. refl) c.take_status.ensures

pub returns-in-Acknowledge : goal.returns-in-Acknowledge
returns-in-Acknowledge c =
    keeps_judged c.args.c c.args.s c.args.head c.args.writers.now c.args.lost.now c.args.out.now c.requires.4
    c.acknowledge.result c.requires.0.counted Acknowledge c.in-Acknowledge.is (acknowledge-same c.args.s) (λ gone lost. refl)
    (λ st. refl) c.acknowledge.ensures
