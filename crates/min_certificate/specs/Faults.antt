-- What a check tells of an audit that was refused.
use Rattle.replay_audit.specs.declared.audit_fault.AuditFault.{AuditFault}
use Rattle.replay_audit.specs.Audits.{fault_by}
use Rattle.min_certificate.specs.declared.answers.CheckFault.{CheckFault}
use Rattle.min_certificate.specs.declared.answers.CheckFault.TheVariants.{Audit, OutOfMemory}

-- what a check tells of an audit that was refused
abbrev pub fault_of_audit : AuditFault → CheckFault
fault_of_audit fault = fault_by Audit OutOfMemory fault
