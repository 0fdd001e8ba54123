-- How domains end, and how paths begin: the tests of `DecideEnds`.
pub use Rattle.csp_model.specs.DecideEnds.{is_subdomain, is_host_under, begins_with, goes_beyond}
