use Rattle.std.proofs.Common.{codes, refl}
use Rattle.check_scope.proofs.TextLaws.{other_text}
use Rattle.check_scope.proofs.built_ins.built_in.Goals as goal

pub returns-in_default : goal.returns-in_default
returns-in_default c =
    let w = c.args.name.now in
    rw (
      other_text (codes "__VERIFIER_nondet_bool") w c.in_default.not-text,
      other_text (codes "__VERIFIER_nondet_char") w c.in_default.not-text-2,
      other_text (codes "__VERIFIER_nondet_uchar") w c.in_default.not-text-3,
      other_text (codes "__VERIFIER_nondet_short") w c.in_default.not-text-4,
      other_text (codes "__VERIFIER_nondet_ushort") w c.in_default.not-text-5,
      other_text (codes "__VERIFIER_nondet_int") w c.in_default.not-text-6,
      other_text (codes "__VERIFIER_nondet_uint") w c.in_default.not-text-7,
      other_text (codes "__VERIFIER_nondet_unsigned") w c.in_default.not-text-8,
      other_text (codes "__VERIFIER_nondet_long") w c.in_default.not-text-9,
      other_text (codes "__VERIFIER_nondet_ulong") w c.in_default.not-text-10,
      other_text (codes "__VERIFIER_nondet_longlong") w c.in_default.not-text-11,
      other_text (codes "__VERIFIER_nondet_ulonglong") w c.in_default.not-text-12,
      other_text (codes "reach_error") w c.in_default.not-reach_error,
      other_text (codes "abort") w c.in_default.not-abort,
      other_text (codes "exit") w c.in_default.not-exit,
    ) refl
