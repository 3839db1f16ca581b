-- Accesses of the guest's, one after the other, keep the plain drives for which a monitor and its drive stand.
use Rattle.std.proofs.Common.{◌≡◌, List, [], ◌∷◌, ◌++◌, ℕ, refl, sym, ap, ◌∙◌, subst, append_assoc, append-nil}
use Rattle.ata_taskfile.specs.declared.Access.{Access}
use Rattle.ata_taskfile.specs.declared.Answer.{Answer}
use Rattle.ata_taskfile.specs.Device.{Device}
use Rattle.ata_taskfile.specs.Access.{accessed, answer_to}
use Rattle.ata_taskfile.specs.Accesses.{all_accessed}
use Rattle.plain_drive.specs.Alike.{after_access}
use Rattle.plain_drive.specs.Plain.{Plain}
use Rattle.plain_drive.specs.Physical.{Physical}
use Rattle.plain_run.specs.Guest.{bytes_answered, bytes_read, with_device}
use Rattle.streaming.specs.Lines.{Line, line_of, with_accesses}
use Rattle.streaming.specs.Lines.Call.{of_access}
use Rattle.mediator.specs.declared.mediator.Mediator.{Mediator}
use Rattle.world.specs.Keeping.{AnswersAccess, AnswersAccesses, KeepsAccesses, StandBy}

-- accesses and then others lead where all of them do
accessed_then : (first next : List Access) (d : Device)
    → all_accessed (first ++ next) d ≡ all_accessed next (all_accessed first d)
accessed_then [] next d = refl
accessed_then (a ∷ first) next d = accessed_then first next (accessed a d)

read_then : (first next : List Access) (d : Device)
    → bytes_read (first ++ next) d ≡ bytes_read first d ++ bytes_read next (all_accessed first d)
read_then [] next d = refl
read_then (a ∷ first) next d =
    ap (λ rest. bytes_answered (answer_to a d) ++ rest) (read_then first next (accessed a d))
    ∙ sym (append_assoc (bytes_answered (answer_to a d)) (bytes_read first (accessed a d))
    (bytes_read next (all_accessed first (accessed a d))))

lines_then : (first next : List Access) (q : Plain) (lines : List Line)
    → with_accesses (first ++ next) q lines
    ≡ with_accesses next (with_device (all_accessed first q.device) q) (with_accesses first q lines)
lines_then [] next q lines = refl
lines_then (a ∷ first) next q lines =
    lines_then first next (after_access a q) (line_of (of_access a) q [] ∷ lines)

-- no access keeps each
pub none_kept : (m : Mediator) (p : Physical) → KeepsAccesses [] m p m p
none_kept m p k q lines stand = stand

-- so do accesses and then others
pub then_kept : (first next : List Access) (m n o : Mediator) (p r s : Physical) → KeepsAccesses first m p n r
    → KeepsAccesses next n r o s → KeepsAccesses (first ++ next) m p o s
then_kept first next m n o p r s were are k q lines stand =
    let between = with_device (all_accessed first q.device) q in
    let now = are k between (with_accesses first q lines) (were k q lines stand) in
    subst (λ (d : Device). StandBy k o s (with_device d q) (with_accesses (first ++ next) q lines))
    (sym (accessed_then first next q.device))
    (subst (λ list. StandBy k o s (with_device (all_accessed next between.device) between) list)
    (sym (lines_then first next q lines)) now)

-- and what all of them were answered is each's
pub then_answered : (first next : List Access) (m n : Mediator) (p r : Physical) (bytes more all : List ℕ)
    → KeepsAccesses first m p n r → AnswersAccesses first m p bytes → AnswersAccesses next n r more
    → all ≡ bytes ++ more → AnswersAccesses (first ++ next) m p all
then_answered first next m n p r bytes more all were answered are is k q lines stand =
    is ∙ ap (λ front. front ++ more) (answered k q lines stand)
    ∙ ap (λ back. bytes_read first q.device ++ back)
    (are k (with_device (all_accessed first q.device) q) (with_accesses first q lines) (were k q lines stand))
    ∙ sym (read_then first next q.device)

-- one access was answered the bytes of its answer
pub one_answered : (a : Access) (m : Mediator) (p : Physical) (answer : Answer) (bytes : List ℕ)
    → AnswersAccess a m p answer → bytes ≡ bytes_answered answer → AnswersAccesses (a ∷ []) m p bytes
one_answered a m p answer bytes answered is k q lines stand =
    is ∙ ap bytes_answered (answered k q lines stand)
    ∙ sym (append-nil (bytes_answered (answer_to a q.device)))
