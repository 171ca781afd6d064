use Rattle.std.proofs.Common.{◌≡◌, ◌+◌, ◌<◌, List, ◌++◌, Option, length, take, drop, sym, ◌∙◌, arith}
use Rattle.arrayvec.specs.ArrayVec.{ArrayVec}
use Rattle.candidate_book.specs.Book.{BookContents}
use Rattle.session_readers.specs.declared.bank.Bank.{Bank}
use Rattle.search_session.specs.Books.{transfers_searched, FirstsGiven}
use Rattle.search_session.proofs.Rows.{all_written}
use Rattle.search_session.proofs.Taking.{nothing_taken, taken_more, some_searched, all_taken}
use Rattle.search_session.proofs.books.books_of.Goals as goal

pub loop-transfer-init : goal.loop-transfer-init
loop-transfer-init c = rw c.new-books.ensures (nothing_taken c.args.banks.items)

pub loop-transfer-preserved : goal.loop-transfer-preserved
loop-transfer-preserved c =
    let n = c.loop-transfer._transfer in
    let all = c.args.banks.items in
    let left = c.loop-transfer.banks.items in
    let new : List (Option Bank) = c.take_firsts.new.banks in
    let row : ArrayVec (Option BookContents) = c.take_firsts.result in
    let transfers = c.requires.0 in
    let shown : all ≡ c.as_slice.result.now = sym c.as_slice.ensures.value in
    let firsts : FirstsGiven (length left) left row.items new =
    rw c.as_mut_slice.ensures.value at c.take_firsts.ensures in
    let searched : c.transfers_of-transfer-end.result ≡ transfers_searched (length all) transfers =
    rw shown (c.transfers_of-transfer-end.ensures.all transfers (rw shown at c.requires.1)) in
    let near : 0 < length all → n < transfers = λ some.
    let many = searched ∙ some_searched (length all) transfers some in omega arith in
    rw c.push.ensures.items (taken_more all left (take (length left) (new ++ drop (length new) left)) n transfers
    c.loop-transfer.books.items row c.requires.1 near c.loop-transfer.invariant
    (rw (all_written (length left) left new firsts.count) firsts))

pub returns : goal.returns
returns c = λ transfers have.
    let n = c.loop-transfer._transfer in
    let all = c.args.banks.items in
    let shown : all ≡ c.as_slice.result.now = sym c.as_slice.ensures.value in
    let searched : c.transfers_of-transfer-end.result ≡ transfers_searched (length all) transfers =
    rw shown (c.transfers_of-transfer-end.ensures.all transfers (rw shown at have)) in
    let most = c.loop-transfer.invariant.books_count in
    let done : n ≡ c.transfers_of-transfer-end.result = omega arith in
    all_taken all c.loop-transfer.banks.items n transfers c.loop-transfer.books.items have (done ∙ searched)
    c.loop-transfer.invariant
