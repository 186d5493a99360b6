-- SPDX-License-Identifier: MPL-2.0
pub mod Runs
pub mod Courses
pub mod Ends
