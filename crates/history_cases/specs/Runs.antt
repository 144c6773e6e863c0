-- What document 01's runs start from: settings, kept view, and a desk with the reports.
pub use Rattle.report_cases.specs.Samples.{case_settings, settings_with, report_under, case_report, no_runs, run1, two_runs1, slot_of, six_slots, desk_with_reports, view7, six_members, log_of}
unfoldable pub use Rattle.report_cases.specs.Samples.{desk}
