use Rattle.std.proofs.Common.{◌≡◌, Err, rules, subst}
use Rattle.wv_cert.specs.Reading.{AnswersFor}
use Rattle.wv_cert.specs.Text.{IsCertificate}
use Rattle.wv_cert.proofs.Faults.{only_memory}
use Rattle.wv_cert.proofs.laws.read_back.Goals as goal

pub returns-in_err-read : goal.returns-in_err-read
returns-in_err-read c =
    let e : c.from_residual-in_err-read.result ≡ Err c.in_err-read.field-0.0 = search rules in
    let answer = subst (λ bytes. AnswersFor bytes (Err c.in_err-read.field-0.0)) c.deref.ensures.value c.in_err-read.ensures in
    let all = only_memory c.args.logs.now c.in_ok-bytes.bytes.items c.in_err-read.field-0.0 c.in_ok-bytes.ensures answer in
    rw e all

pub returns : goal.returns
returns c =
    let read = subst (IsCertificate c.in_ok-read.read) c.deref.ensures.value c.in_ok-read.ensures in
    c.one_list.ensures c.in_ok-bytes.bytes.items c.in_ok-read.read c.args.logs.now read c.in_ok-bytes.ensures
