pub mod SideRuns
